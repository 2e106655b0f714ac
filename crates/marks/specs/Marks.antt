-- What the calls of this crate promise, for any marks and any numbers. Document 01: "marks (one octet per rule, 0 for unused,
-- anything else for used)"; "Its target is the lowest unused rule." A rule that has no mark is unused. Assumes nothing.
use Rattle.std.specs.Prelude.{ℕ, ◌<◌, ◌≡◌, Option, Some, None, length, get_or}
use mathlib.Core.List.{List, Memᴰ}

-- none of the rules below n is unused
abbrev pub UsedBelow : List ℕ → ℕ → Type 0
UsedBelow marks n = (k : ℕ) → k < n → ¬ (get_or marks k 0 ≡ 0)

-- the lowest rule of so many that is unused, or that none is
pub data FirstUnused (marks : List ℕ) (rules : ℕ) : Option ℕ → Type 0 where
  at : {r : ℕ} → r < rules → get_or marks r 0 ≡ 0 → UsedBelow marks r → FirstUnused marks rules (Some r)
  none_unused : UsedBelow marks rules → FirstUnused marks rules None

-- "sets to 1 the zero marks of exactly the rules in the derivation"
pub record Marked (ks before after : List ℕ) : Type 0 where
  pub long : length after ≡ length before
  pub sets : (i : ℕ) → i < length before → Memᴰ i ks → get_or before i 0 ≡ 0 → get_or after i 0 ≡ 1
  pub keeps : (i : ℕ) → i < length before → ¬ (Memᴰ i ks × (get_or before i 0 ≡ 0)) → get_or after i 0 ≡ get_or before i 0
