-- `tables::build::worked_out` meets its contract: row 4 is the judge's, whose fault `FoundLeasts::of` hands on. Assumes nothing.
use Rattle.grammar.specs.Rows.{row_4}
use Rattle.tables.specs.Promise.{row_4_7}
use Rattle.tables.proofs.build.worked_out.Goals as goal

pub returns-in-Err : goal.returns-in-Err
returns-in-Err c = rw c.from.ensures (row_4_7 (row_4 (rw c.in-Err.is at c.of.ensures)))
