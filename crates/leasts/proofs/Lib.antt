-- A rule as a reading gives it, its size, and what its turn does to the leasts.
pub mod ReadingBounds
pub mod RuleRead
pub mod RuleSummed
pub mod SymbolsCost
pub mod LeastTurns
pub mod RoundSoFar
pub mod RuleSizes
-- Where the rounds end, the figures are those of the promise.
pub mod RestIsLeast
pub mod Outcomes
-- What the promise settles, and that it can be met.
pub mod LeastsSettle
pub mod LeastsMet
pub mod LeastsExact
-- The final statements.
pub mod Main
