-- What the laws of a Cost give at once: equal costs are in order, a part is at most the whole, and what a rule use is added to
-- has the lower rank. The proofs of leasts and contexts cite these at every step.
-- Assumes nothing.
use Prim.Native.Nat.{◌<◌}
use native.Mathlib.Omega.{arith}
use mathlib.Core.Path.{◌≡◌, sym, ap}
use Rattle.grammar.specs.Measure.{Cost}

-- equal costs are in order
pub le_of_eq : (c : Cost) {x y : c.C} → x ≡ y → c.◌≼◌ x y
le_of_eq c {y} e = rw e (c.le_refl y)

module _ (c : Cost) where
  open c use {C, ◌⊕◌, ◌≼◌, once, unit, comm, le_refl, le_trans, least, mono, rank, rank_add, rank-once}

  infixl 60 ◌⊕◌
  infix 40 ◌≼◌
  -- a part is at most the whole
  pub at_most_right : {x y : C} → y ≼ x ⊕ y
  at_most_right {x} {y} = le_trans (le_of_eq c (sym (unit y))) (mono (least x) (le_refl y))

  pub at_most_left : {x y : C} → x ≼ x ⊕ y
  at_most_left {x} {y} = le_trans at_most_right (le_of_eq c (comm y x))

  -- "once ⊕ y" is what a rule over y costs, and "x ⊕ (once ⊕ y)" what a rule beside y costs under a context x
  pub rank_of_rule : {x y : C} → x ≡ once ⊕ y → rank y < rank x
  rank_of_rule {y} e = omega (arith, ap rank e, rank_add once y, rank-once)

  pub rank_of_context : {x y z : C} → z ≡ x ⊕ (once ⊕ y) → rank x < rank z
  rank_of_context {x} {y} e = omega (arith, ap rank e, rank_add x (once ⊕ y), rank_add once y, rank-once)
