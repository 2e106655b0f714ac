-- Rows tested by computing, and the others.
pub mod AnyBuffer
pub mod RowsTested
pub mod SampleNights
-- That the promises allow nothing else.
pub mod NightSettled
pub mod RowsSettled
-- The final statements.
pub mod RowsHold
pub mod Main
