-- What a reader must believe, in reading order.
pub mod Words
pub mod Derivation
pub mod Tree
pub mod Measure
pub mod Terms
pub mod Least
pub mod Refusals
pub mod Rows
-- What the final statements say besides: replay as a function, the tests that decide figures, figures that saturate, and samples.
pub mod Replaying
pub mod Certificates
pub mod FigureTests
pub mod Caps
pub mod Samples
