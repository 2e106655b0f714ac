-- What a reader must believe.
pub mod Promise
-- What the private functions promise each other; nobody has to believe it.
pub mod Passes
