-- `tables::fill::fill` meets its contract: the entries of the nonterminals, then the totals. Assumes nothing.
use Rattle.entries.proofs.EntriesWritten.{all_entered, all_written}
use Rattle.tables.specs.Filling.{figures_in}
use Rattle.tables.proofs.fill.fill.Goals as goal

pub returns : goal.returns
returns c =
    let a = c.args in
    let v = a.figures.reading.now in
    let F = figures_in a.figures a.choices in
    all_written v.nonterminals v.rules F a.table.now c.requires
    (c.fill_totals.ensures a.choices a.table.now c.requires
    (all_entered v.nonterminals v.rules F a.table.now c.requires c.fill_entries.ensures))
