-- What a reader must believe.
pub mod Answers
pub mod Next
pub mod Given
pub mod Night
-- What the private functions promise each other; nobody has to believe it.
pub mod Listing
pub mod TreeListing
pub mod RowsPassed
