-- Figures fall: a figure that is lowered lowers the sum of the array's words. Assumes nothing.
use mathlib.Core.Path.{◌≡◌, refl}
use mathlib.Core.List.{List, [], ◌∷◌}
use Prim.Native.Nat.{ℕ, zero, suc, ◌<◌}
use native.Mathlib.Omega.{arith}
use lib.ListN.{length, get_or}
use Rattle.std.proofs.lemmas.List.{get_or_default}
use Rattle.std.proofs.lemmas.List.Sums.{sum_by-set}
use Rattle.figures.specs.Figures.{no_figure, figure, Has, Lowered, fell, stayed}
use Rattle.figures.specs.Weights.{Fallen}

-- a figure that has a place is the word there, whatever stands for none
pub figure_is : (xs : List ℕ) (a d : ℕ) → a < length xs → get_or xs a d ≡ figure xs a
figure_is xs a d h = get_or_default xs a d no_figure h

-- a figure that there is has a place
pub has_place : (xs : List ℕ) (a : ℕ) → Has xs a → a < length xs
has_place [] a has = absurd (has refl)
has_place (x ∷ xs) zero has = omega arith
has_place (x ∷ xs) (suc a) has = let l = has_place xs a has in omega arith

pub lowered_fallen : {xs ys : List ℕ} {a to n : ℕ} → Lowered xs a to ys n → Fallen xs ys n
lowered_fallen {xs} {a = a} {to = to} (fell h l) = omega (arith, sum_by-set (λ x. x) xs a to no_figure h)
lowered_fallen (stayed h) = omega arith
