-- A figure that is lowered: the array keeps its length, no figure rises, and what is known of each figure stays known,
-- where it is known of the number that the one is lowered to. Assumes nothing.
use mathlib.Core.Path.{◌≡◌, refl}
use mathlib.Core.List.{List}
use Prim.Native.Nat.{ℕ, ◌≤◌}
use native.Mathlib.Decide.{ℕ_discrete}
use native.Mathlib.Omega.{arith}
use lib.ListN.{length, set, length-set}
use lib.Seq.{get_or-set_same, get_or-set_other}
use Rattle.figures.specs.Figures.{no_figure, figure, Has, Lowered, fell, stayed}

-- at most one falls
pub lowered_once : {xs ys : List ℕ} {A to n : ℕ} → Lowered xs A to ys n → n ≤ 1
lowered_once (fell h l) = omega arith
lowered_once (stayed h) = omega arith

pub lowered_length : {xs ys : List ℕ} {A to n : ℕ} → Lowered xs A to ys n → length ys ≡ length xs
lowered_length {xs} {A = A} {to = to} (fell h l) = length-set xs A to
lowered_length (stayed h) = refl

pub lowered_no_higher : {xs ys : List ℕ} {A to n : ℕ} → Lowered xs A to ys n → (B : ℕ) → figure ys B ≤ figure xs B
lowered_no_higher {xs} {A = A} {to = to} (fell h l) B = go (ℕ_discrete B A)
  where
    go : Dec (B ≡ A) → figure (set xs A to) B ≤ figure xs B
    go (yes e) = rw e (omega (arith, get_or-set_same xs A to no_figure h))
    go (no d) = omega (arith, get_or-set_other xs A B to no_figure d)
lowered_no_higher (stayed h) B = omega arith

module _ (P : ℕ → ℕ → Type 0) where
  pub lowered_known : {xs ys : List ℕ} {A to n : ℕ} → Lowered xs A to ys n → P A to →
      ((B : ℕ) → Has xs B → P B (figure xs B)) → (B : ℕ) → Has ys B → P B (figure ys B)
  lowered_known {xs} {A = A} {to = to} (fell h l) p known B has = go (ℕ_discrete B A)
    where
      go : Dec (B ≡ A) → P B (figure (set xs A to) B)
      go (yes e) = rw (e, get_or-set_same xs A to no_figure h) p
      go (no d) = let same = get_or-set_other xs A B to no_figure d in rw same (known B (rw same at has))
  lowered_known (stayed h) p known B has = known B has
