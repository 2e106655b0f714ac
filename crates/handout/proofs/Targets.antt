-- The target: whether a rule is unused is decided, and then which is the lowest; the search over as many marks as there are rules
-- finds it, or that there is none. Assumes nothing.
use Prim.Native.Nat.{ℕ, ◌≤◌, ◌<◌}
use native.Mathlib.Omega.{arith}
use native.Mathlib.Decide.{dec_lt, ℕ_discrete}
use mathlib.Core.Path.{◌≡◌}
use mathlib.Core.Logic.{◌⊎◌, inl, inr}
use mathlib.Core.List.{List}
use lib.ListN.{get_or}
use Rattle.std.specs.Prelude.{Some, None}
use Rattle.grammar.specs.Words.{Grammar, R}
use Rattle.grammar.specs.Refusals.{Lowest}
use Rattle.grammar.proofs.Search.{all_or_lowest}
use Rattle.marks.specs.Marks.{FirstUnused, at, none_unused}
use Rattle.handout.specs.Next.{Unused, AllUsed}

module _ (g : Grammar) (marks : List ℕ) where
  pub unused? : AllUsed g marks ⊎ ((r : ℕ) × Lowest (Unused g marks) r)
  unused? = all_or_lowest (Unused g marks) (λ r. ¬ (get_or marks r 0 ≡ 0)) (R g) each (λ r n u. n u.zero)
    where
      of_mark : (r : ℕ) → r < R g → Dec (get_or marks r 0 ≡ 0) → (¬ (get_or marks r 0 ≡ 0)) ⊎ Unused g marks r
      of_mark r l (yes z) = inr (record { rule = l; zero = z })
      of_mark r l (no n) = inl n

      each : (r : ℕ) → r < R g → (¬ (get_or marks r 0 ≡ 0)) ⊎ Unused g marks r
      each r l = of_mark r l (ℕ_discrete (get_or marks r 0) 0)

-- the search
module _ (g : Grammar) {marks : List ℕ} {rules : ℕ} (all : rules ≡ R g) where
  pub lowest_found : {r : ℕ} → FirstUnused marks rules (Some r) → Lowest (Unused g marks) r
  lowest_found {r} (at l z below) = record {
    such = record { rule = omega arith; zero = z };
    lowest = λ m u. go m u (dec_lt m r);
  }
    where
      go : (m : ℕ) → Unused g marks m → Dec (m < r) → r ≤ m
      go m u (yes lt) = absurd (below m (omega arith) u.zero)
      go m u (no ge) = omega arith

  pub none_found : FirstUnused marks rules None → AllUsed g marks
  none_found (none_unused below) r l = below r (omega arith)
