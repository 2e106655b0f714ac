-- A sample, by the definitions alone. Files are checked in the order of their names, so that a wrong definition meets a fact
-- before it meets a proof.
pub mod ASampleOfTables
-- What a table is.
pub mod EntriesWritten
pub mod TablePlaces
pub mod TableIsOne
pub mod TableFits
pub mod TableTests
pub mod TableComputed
pub mod TableSamples
pub mod TableExists
pub mod SizeApart
pub mod TableWorkedOut
-- The final statements.
pub mod EntriesSettle
pub mod Main
