-- What the promises settle, and that each can be met.
pub mod MarksSettle
pub mod MarksMet
-- The final statements.
pub mod Main
