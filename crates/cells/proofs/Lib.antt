-- What the promises settle.
pub mod CellsSettle
-- The final statements.
pub mod Main
