-- Decimal digits: what `decimal` comes to where nothing counts turns, and how long it is. Assumes nothing.
use Prim.Native.Nat.{ℕ, zero, suc, ◌+◌, ◌-◌, ◌*◌, ◌/◌, ◌%◌, ◌^◌, ◌≤◌, ◌<◌}
use native.Mathlib.Omega.{arith}
use native.Mathlib.Decide.{dec_le}
use native.Mathlib.Nat.{le_refl, lt_of_not-le, pow-suc, div-lt_self, div-lt_iff_lt-mul, div-add-mod', le-div_iff_mul-le}
use mathlib.Core.Path.{◌≡◌, refl, sym, ◌∙◌}
use mathlib.Core.List.{List, [], ◌∷◌, ◌++◌}
use lib.ListN.{length, get_or, length-append, get_or-append}
use borrow.Author.Tests.{lt-ltb, le-ltb}
use Rattle.lines.specs.Digits.{digit, digits_in, decimal, spelled}

no_turns : (n : ℕ) → digits_in zero n ≡ digit n ∷ []
unfolding digits_in
no_turns n = refl

one_digit : (turns n : ℕ) → n < 10 → digits_in turns n ≡ digit n ∷ []
unfolding digits_in
one_digit zero n h = refl
one_digit (suc turns) n h = rw (lt-ltb n 10 h)

more_digits : (turns n : ℕ) → 10 ≤ n → digits_in (suc turns) n ≡ digits_in turns (n / 10) ++ (digit (n % 10) ∷ [])
unfolding digits_in
more_digits turns n h = rw (le-ltb n 10 h)

-- turns enough are all alike
turns_alike : (a b n : ℕ) → n ≤ a → n ≤ b → digits_in a n ≡ digits_in b n
turns_alike zero b n h k = one_digit zero n (omega arith) ∙ sym (one_digit b n (omega arith))
turns_alike (suc a) zero n h k = one_digit (suc a) n (omega arith) ∙ sym (one_digit zero n (omega arith))
turns_alike (suc a) (suc b) n h k = go (dec_le 10 n) (turns_alike a b (n / 10))
  where
    go : Dec (10 ≤ n) → (n / 10 ≤ a → n / 10 ≤ b → digits_in a (n / 10) ≡ digits_in b (n / 10)) →
        digits_in (suc a) n ≡ digits_in (suc b) n
    go (no l) alike = let one = lt_of_not-le l in one_digit (suc a) n one ∙ sym (one_digit (suc b) n one)
    go (yes ten) alike =
        let falls = div-lt_self {n = n} {k = 10} (omega arith) (omega arith) in
        let same = alike (omega arith) (omega arith) in
        more_digits a n ten ∙ rw same (sym (more_digits b n ten))

-- DECIMAL: below 10 a number is its digit
pub decimal_one : (n : ℕ) → n < 10 → decimal n ≡ digit n ∷ []
unfolding decimal
decimal_one n h = one_digit n n h

-- DECIMAL: from 10 on it is the digits of a tenth of it, and its last digit
pub decimal_more : (n : ℕ) → 10 ≤ n → decimal n ≡ decimal (n / 10) ++ (digit (n % 10) ∷ [])
unfolding decimal
decimal_more zero h = absurd (omega arith)
decimal_more (suc m) h =
    let falls = div-lt_self {n = suc m} {k = 10} (omega arith) (omega arith) in
    more_digits m (suc m) h ∙ rw (turns_alike m (suc m / 10) (suc m / 10) (omega arith) (omega arith))

spelled_append : (v : ℕ) (u w : List ℕ) → spelled v (u ++ w) ≡ spelled (spelled v u) w
unfolding spelled
spelled_append v [] w = refl
spelled_append v (x ∷ u) w = spelled_append (10 * v + (x - 48)) u w

spelled-digit : (v n : ℕ) → spelled v (digit n ∷ []) ≡ 10 * v + n
unfolding spelled
spelled-digit v n = omega arith

digits_spell : (turns n : ℕ) → n ≤ turns → spelled 0 (digits_in turns n) ≡ n
digits_spell zero n h = rw (no_turns n, spelled-digit 0 n) (omega arith)
digits_spell (suc turns) n h = go (dec_le 10 n) (digits_spell turns (n / 10))
  where
    go : Dec (10 ≤ n) → (n / 10 ≤ turns → spelled 0 (digits_in turns (n / 10)) ≡ n / 10) → spelled 0 (digits_in (suc turns) n) ≡ n
    go (no l) earlier = rw (one_digit (suc turns) n (lt_of_not-le l), spelled-digit 0 n) (omega arith)
    go (yes ten) earlier =
        let falls = div-lt_self {n = n} {k = 10} (omega arith) (omega arith) in
        let front = earlier (omega arith) in
        rw (
          more_digits turns n ten,
          spelled_append 0 (digits_in turns (n / 10)) (digit (n % 10) ∷ []),
          front,
          spelled-digit (n / 10) (n % 10),
        ) (omega (arith, div-add-mod' n 10))

-- DECIMAL: the digits of a number spell it
pub decimal_spells : (n : ℕ) → spelled 0 (decimal n) ≡ n
unfolding decimal
decimal_spells n = digits_spell n n (le_refl n)

some_digit : (turns n : ℕ) → 0 < length (digits_in turns n)
some_digit zero n = rw (no_turns n) (omega arith)
some_digit (suc turns) n = go (dec_le 10 n)
  where
    go : Dec (10 ≤ n) → 0 < length (digits_in (suc turns) n)
    go (no l) = rw (one_digit (suc turns) n (lt_of_not-le l)) (omega arith)
    go (yes ten) =
        rw (more_digits turns n ten) (omega (arith, length-append (digits_in turns (n / 10)) (digit (n % 10) ∷ [])))

no_zero_first : (turns n : ℕ) → n ≤ turns → 0 < n → get_or (digits_in turns n) 0 0 ≡ 48 → ⊥
no_zero_first zero n h k e = absurd (omega arith)
no_zero_first (suc turns) n h k e = go (dec_le 10 n) (no_zero_first turns (n / 10))
  where
    go : Dec (10 ≤ n) → (n / 10 ≤ turns → 0 < n / 10 → get_or (digits_in turns (n / 10)) 0 0 ≡ 48 → ⊥) → ⊥
    go (no l) earlier = let one = rw (one_digit (suc turns) n (lt_of_not-le l)) at e in omega arith
    go (yes ten) earlier =
        let falls = div-lt_self {n = n} {k = 10} (omega arith) (omega arith) in
        let some = (le-div_iff_mul-le {k = 10} {x = 1} {y = n} (omega arith)).1 (omega arith) in
        let front = get_or-append (digits_in turns (n / 10)) (digit (n % 10) ∷ []) 0 0 (some_digit turns (n / 10)) in
        earlier (omega arith) (omega arith) (sym front ∙ (rw (more_digits turns n ten) at e))

-- DECIMAL: and have no zero in front, but for 0 itself
pub decimal_no_zero : (n : ℕ) → 0 < n → get_or (decimal n) 0 0 ≡ 48 → ⊥
unfolding decimal
decimal_no_zero n h e = no_zero_first n n (le_refl n) h e

-- a number below the k-th power of ten has at most k digits
few_digits : (k turns n : ℕ) → n < 10 ^ suc k → length (digits_in turns n) ≤ suc k
few_digits k zero n h = rw (no_turns n) (omega arith)
few_digits k (suc turns) n h = go k h (dec_le 10 n) (λ j. few_digits j turns (n / 10))
  where
    go : (k : ℕ) → n < 10 ^ suc k → Dec (10 ≤ n) →
        ((j : ℕ) → n / 10 < 10 ^ suc j → length (digits_in turns (n / 10)) ≤ suc j) → length (digits_in (suc turns) n) ≤ suc k
    go k h (no l) few = rw (one_digit (suc turns) n (lt_of_not-le l)) (omega arith)
    go zero h (yes ten) few = absurd (omega arith)
    go (suc k) h (yes ten) few =
        let shorter = few k ((div-lt_iff_lt-mul {k = 10} {x = n} {y = 10 ^ suc k} (omega arith)).1 (rw (← pow-suc 10 (suc k)) h)) in
        rw (more_digits turns n ten) (omega (arith, length-append (digits_in turns (n / 10)) (digit (n % 10) ∷ [])))

pub decimal_few : (k n : ℕ) → n < 10 ^ suc k → length (decimal n) ≤ suc k
unfolding decimal
decimal_few k n h = few_digits k n n h
