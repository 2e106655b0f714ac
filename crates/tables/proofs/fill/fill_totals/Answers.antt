-- What the check leaves of `tables::fill::fill_totals`; the argument stands in Invariants.antt. Assumes nothing.
use mathlib.Core.Path.{ap, ◌∙◌}
use Prim.Native.Nat.{ℕ}
use native.Mathlib.Omega.{arith}
use lib.ListN.{get_or}
use Rattle.entries.specs.Writing.{with_total}
use Rattle.entries.proofs.EntriesWritten.{total_next}
use Rattle.tables.specs.Filling.{found_in, figures_in}
use Rattle.layout.proofs.ReadingBounds.{rules_few}
use Rattle.tables.proofs.fill.fill_totals.Goals as goal

pub bounds-figures-from : goal.bounds-figures-from
bounds-figures-from c = omega (arith, rules_few c.args.figures.reading.now)

pub loop-r-preserved : goal.loop-r-preserved
unfolding found_in
loop-r-preserved c choices before room so_far =
    let f = c.args.figures in
    let v = f.reading.now in
    let loop = c.loop-r in
    let stored = c.write_total.ensures ∙
    ap (λ (k : ℕ). with_total loop.table v.nonterminals loop.r (get_or f.totals.now k 0)) c.from.ensures in
    total_next v.nonterminals v.rules (figures_in f choices) before room loop.r c.loop-r-test.true
    (loop.invariant choices before room so_far) stored
