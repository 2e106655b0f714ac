-- A sample, by the definitions alone. Files are checked in the order of their names, so that a wrong definition meets a fact before
-- it meets a proof.
pub mod ASampleOfTests
-- The pass over a lent table.
pub mod PlacesSummed
pub mod TestsExact
pub mod RulesRead
pub mod WordsTested
-- What the promise settles.
pub mod TestSettles
-- The final statements.
pub mod Main
