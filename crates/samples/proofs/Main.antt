-- The final statements of this crate, each by one citation. A reader who believes specs/ of this crate and of those below, and
-- reads this page, is done. Assumes nothing.
use Rattle.samples.specs.Row.{Row, Holds, Settled, All}
use Rattle.samples.specs.Rows.{rows}
use Rattle.samples.proofs.RowsHold as RowsHold
use Rattle.samples.proofs.RowsSettled as RowsSettled

-- EVERY ROW marked P of document 01's table holds, of the definitions themselves.
pub every_row_holds : All Holds rows
every_row_holds = RowsHold.every_row_holds

-- NOTHING ELSE: where a row holds, the promises allow no other outcome; so the code, which meets them, can answer nothing else.
pub row_settled : (row : Row) → Holds row → Settled row
row_settled = RowsSettled.row_settled

pub every_row_settled : All Settled rows
every_row_settled = RowsHold.every_row_settled
