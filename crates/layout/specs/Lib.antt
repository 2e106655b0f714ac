-- What a reader must believe, in reading order.
pub mod Judge
pub mod Read
pub mod Walk
pub mod WalkOrder
pub mod Rules
pub mod Sides
-- What the judge's private functions promise each other, and what those of the layers above know of words; nobody has to believe
-- it.
pub mod JudgeParts
pub mod Heads
pub mod View
