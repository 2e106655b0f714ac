-- What the check leaves of `tables::fill::fill_entries`; the argument stands in Invariants.antt. Assumes nothing.
use mathlib.Core.Path.{ap, ◌∙◌}
use native.Mathlib.Omega.{arith}
use Rattle.entries.specs.Writing.{with_entries}
use Rattle.entries.specs.declared.Entries.{Entries}
use Rattle.entries.proofs.EntriesWritten.{none_entered, enter_next}
use Rattle.tables.specs.Filling.{found_in, figures_in}
use Rattle.layout.proofs.ReadingBounds.{nonterminals_few}
use Rattle.tables.proofs.fill.fill_entries.Goals as goal

pub loop-a-init : goal.loop-a-init
loop-a-init c =
    let a = c.args in
    let v = a.figures.reading.now in
    none_entered v.nonterminals v.rules (figures_in a.figures a.choices) a.table.now

pub entries_of-requires : goal.entries_of-requires
entries_of-requires c = omega (arith, nonterminals_few c.args.figures.reading.now)

pub loop-a-preserved : goal.loop-a-preserved
unfolding found_in
loop-a-preserved c =
    let a = c.args in
    let v = a.figures.reading.now in
    let loop = c.loop-a in
    enter_next v.nonterminals v.rules (figures_in a.figures a.choices) a.table.now c.requires loop.a c.loop-a-test.true
    loop.invariant
    (c.write.ensures ∙ ap (λ (e : Entries). with_entries loop.table loop.a e) c.entries_of.ensures)
