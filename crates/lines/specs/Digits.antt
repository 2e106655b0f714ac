-- Document 01: "Numbers are decimal". The octets of a number. Assumes nothing.
use Rattle.std.specs.Prelude.{ℕ, zero, suc, ◌+◌, ◌-◌, ◌*◌, ◌/◌, ◌%◌, cond, List, [], ◌∷◌, ◌++◌, ltb}

-- the octet of a digit: 0 is octet 48
abbrev pub digit : ℕ → ℕ
digit d = 48 + d

-- the digits of n: below 10 it is one digit; from 10 on those of n / 10, and then the last one. `turns` only counts down: it is
-- at least n, and n / 10 is smaller than n, so that it never runs out (`decimal_one`, `decimal_more`)
unfoldable pub digits_in : ℕ → ℕ → List ℕ
digits_in zero n = digit n ∷ []
digits_in (suc turns) n = cond (ltb n 10) (digit n ∷ []) (digits_in turns (n / 10) ++ (digit (n % 10) ∷ []))

unfoldable pub decimal : ℕ → List ℕ
decimal n = digits_in n n

-- the number that digits spell, behind a number that is spelled already
unfoldable pub spelled : ℕ → List ℕ → ℕ
spelled v [] = v
spelled v (x ∷ xs) = spelled (10 * v + (x - 48)) xs
