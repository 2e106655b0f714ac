-- What the promise settles.
pub mod ReplaySettles
pub mod ReplayExact
-- The final statements.
pub mod Main
-- Why the code keeps its promise.
pub mod FormSteps
pub mod TokensStored
pub mod ReplayMoves
pub mod ReplayStepped
pub mod ReplayRun
