-- Samples, by the definitions alone. Files are checked in the order of their names, so that a wrong definition meets a fact
-- before it meets a proof.
pub mod ASampleOfDerivations
pub mod ASampleOfReach
pub mod ASampleOfTies
pub mod ASampleOfWords
-- What several files below need.
pub mod ConstructorsDiffer
pub mod BySize
pub mod CostOrder
pub mod EverySymbol
pub mod Places
pub mod RuleNumbers
pub mod OpenEach
pub mod AlongMembers
pub mod Search
pub mod Settles
-- Words, derivations and trees.
pub mod LayoutExact
pub mod FirstOffence
pub mod WordsFew
pub mod Leftmosts
pub mod Replay
pub mod Coverage
pub mod AnyOrder
pub mod Dead
-- The measure.
pub mod SizeIsLength
pub mod Unique
pub mod SameListing
pub mod Cut
pub mod Totals
pub mod Certificate
pub mod ContextCertificate
pub mod LeastsExist
pub mod ContextsExist
pub mod TreeOfExists
pub mod Decided
pub mod FigureCertificate
pub mod FigureTest
pub mod SampleFigures
-- What all promises over a grammar begin with: rows 4 to 7.
pub mod FirstRows
pub mod FirstRowsMet
-- Figures that saturate.
pub mod Cap
pub mod CappedLeasts
pub mod CappedContexts
pub mod CappedTotals
pub mod AtRest
-- The final statements.
pub mod Main
