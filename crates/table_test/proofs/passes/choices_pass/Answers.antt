-- What the check leaves of `table_test::passes::choices_pass`; the argument stands in Invariants.antt. Assumes nothing.
use native.Mathlib.Omega.{arith}
use mathlib.Core.Path.{refl}
use borrow.Author.Count.{below_more}
use Rattle.table_test.proofs.passes.choices_pass.Goals as goal

pub loop-a-preserved : goal.loop-a-preserved
loop-a-preserved c = below_more _ _ c.loop-a.invariant (λ g view. (c.choice_passes.ensures g view).0 (cc))

pub returns : goal.returns
returns c g view = (λ e A lt. c.loop-a.invariant A (omega (arith, view.nonterminals)) g view, λ p. refl)
