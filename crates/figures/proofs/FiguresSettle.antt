-- Any two outcomes that a promise of this crate allows coincide. Only `lower` is lent what it could write. Assumes nothing.
use Prim.Native.Nat.{ℕ, ◌≤◌, ◌<◌}
use native.Mathlib.Omega.{arith}
use native.Mathlib.Decide.{dec_lt}
use mathlib.Core.Bool.{Bool}
use mathlib.Core.Path.{◌≡◌, refl, sym, ◌∙◌}
use mathlib.Core.List.{List}
use Rattle.std.specs.Prelude.{Option, Some}
use Rattle.figures.specs.Figures.{figure, capped, Lowered, fell, stayed, FirstAbove, found_at, found_none, turn}

pub figure_at_settles : (xs : List ℕ) (a : ℕ) {r s : ℕ} → (r ≡ figure xs a) × (r ≤ 65535) → (s ≡ figure xs a) × (s ≤ 65535) → r ≡ s
figure_at_settles xs a p q = p.0 ∙ sym q.0

pub cap_settles : (size : ℕ) {r s : ℕ} → r ≡ capped size → s ≡ capped size → r ≡ s
cap_settles size p q = p ∙ sym q

-- the figure is higher, or it is not
pub lower_settles : {before : List ℕ} {a to : ℕ} {after after' : List ℕ} {r s : ℕ} →
    Lowered before a to after r → Lowered before a to after' s → (after ≡ after') × (r ≡ s)
lower_settles (fell h l) (fell h' l') = (refl, refl)
lower_settles (fell h l) (stayed k) = absurd (omega (arith, k h))
lower_settles (stayed k) (fell h l) = absurd (omega (arith, k h))
lower_settles (stayed k) (stayed k') = (refl, refl)

-- neither of two lowest places is below the other
pub first_above_settles : (xs : List ℕ) (n most : ℕ) {a b : Option ℕ} → FirstAbove xs n most a → FirstAbove xs n most b → a ≡ b
first_above_settles xs n most (found_at {a} l z below) (found_at {a = b} m y under) = same (dec_lt a b) (dec_lt b a)
  where
    same : Dec (a < b) → Dec (b < a) → Some a ≡ Some b
    same (yes lt) e = absurd (omega (arith, under a lt))
    same (no ge) (yes lt) = absurd (omega (arith, below b lt))
    same (no ge) (no le) = let e : a ≡ b = omega arith in rw e refl
first_above_settles xs n most (found_at {a} l z below) (found_none all) = absurd (omega (arith, all a l))
first_above_settles xs n most (found_none all) (found_at {a} l z below) = absurd (omega (arith, all a l))
first_above_settles xs n most (found_none all) (found_none every) = refl

pub in_turn_settles : (i rules : ℕ) (up : Bool) {r s : ℕ} → (r ≡ turn up rules i) × (i < rules → r < rules) →
    (s ≡ turn up rules i) × (i < rules → s < rules) → r ≡ s
in_turn_settles i rules up p q = p.0 ∙ sym q.0
