-- `table_test::passes::size_passes` meets its contract: the loop's invariant is `Summed`. Assumes nothing.
use Rattle.table_test.proofs.PlacesSummed.{Summed}
use Rattle.table_test.proofs.passes.size_passes.Given as goal

abbrev pub invariant-loop-place : goal.invariant-loop-place
invariant-loop-place l = Summed l.table l.reading.nonterminals l.number l.total l.symbols l.place l.size
