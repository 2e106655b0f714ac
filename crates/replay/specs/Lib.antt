-- What a reader must believe, in reading order.
pub mod Answers
pub mod Replay
pub mod Given
-- What the private functions promise each other; nobody has to believe it.
pub mod Forms
pub mod ReplaySteps
