-- What the check leaves of `tables::contexts::rule_totals`; the argument stands in Invariants.antt. Assumes nothing.
use mathlib.Core.Path.{◌≡◌, ap, ◌∙◌}
use native.Mathlib.Omega.{arith}
use lib.ListN.{length-set}
use Rattle.figures.specs.Figures.{figure}
use Rattle.figures.proofs.WrittenInOrder.{written_more}
use Rattle.layout.proofs.ReadingBounds.{rules_few}
use Rattle.tables.proofs.RuleTotals.{total_at, totals_of}
use Rattle.tables.proofs.contexts.rule_totals.Goals as goal

pub bounds-totals-from : goal.bounds-totals-from
bounds-totals-from c = omega (arith, rules_few c.args.found.now.reading)

pub loop-r-preserved : goal.loop-r-preserved
loop-r-preserved c =
    let a = c.args in
    let loop = c.loop-r in
    let context = c.figure_at-context.ensures.value ∙ ap (figure a.contexts.now) (c.from.ensures ∙ c.left.ensures) in
    let written = written_more (λ k x. x ≡ total_at a.found.now a.contexts.now k) loop.totals
    (omega (arith, rules_few a.found.now.reading, loop.invariant.0)) (omega (arith, context)) loop.invariant.1 in
    (simp length-set loop.invariant.0, rw c.from-in-loop-r.ensures written)

pub returns : goal.returns
returns c g view =
    let a = c.args in
    totals_of a.found.now view a.contexts.now c.loop-r.totals (λ k h. c.loop-r.invariant.1 k (omega arith))
