-- What a reader must believe.
pub mod Answers
pub mod Promise
pub mod Dead
-- What the final statements say besides.
pub mod Given
-- What the private functions promise each other; nobody has to believe these.
pub mod ContextFigures
pub mod ContextSteps
pub mod Choices
pub mod Filling
