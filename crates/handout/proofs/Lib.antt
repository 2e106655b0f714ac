-- What the promises settle.
pub mod Targets
pub mod NextSettles
pub mod NextMet
pub mod NextExact
pub mod NextDead
-- What a grammar with its table says.
pub mod OwnTable
-- What the lister writes.
pub mod Listings
pub mod SizesByTable
pub mod ListerSteps
-- What the tree lister writes.
pub mod OpenListings
pub mod ContextRules
pub mod BesideSteps
pub mod TreeListerSteps
pub mod FewContexts
pub mod PathSteps
pub mod TreeWrites
-- What a night comes to.
pub mod NightProper
pub mod NightCovers
pub mod HandoutsReplay
pub mod NightEnds
-- The final statements.
pub mod Main
-- Why the code of `next` keeps its promise.
pub mod NextOutcomes
