-- What a reader must believe, in reading order.
pub mod File
pub mod Answers
pub mod Promise
pub mod SampleFile
-- What the private functions promise each other; nobody has to believe it.
pub mod Judged
