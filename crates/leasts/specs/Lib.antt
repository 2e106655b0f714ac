-- What a reader must believe.
pub mod Promise
-- What the private functions promise each other; nobody has to believe these.
pub mod Noted
pub mod LeastSteps
pub mod LeastRounding
