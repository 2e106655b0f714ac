-- `tables::fill::fill_entries` meets its contract: the entries of the nonterminals that the loop has passed stand in the table.
-- Assumes nothing.
use Rattle.tables.specs.Filling.{EnteredTo}
use Rattle.tables.proofs.fill.fill_entries.Given as goal

abbrev pub invariant-loop-a : goal.invariant-loop-a
invariant-loop-a l = EnteredTo l.figures l.choices l.a l.initial.table l.table
