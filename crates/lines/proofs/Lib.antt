pub mod DigitsOfNumbers
pub mod WrittenInRoom
pub mod NumbersSpaced
pub mod WholeLines
pub mod LineLengths
pub mod Settles
pub mod Samples
pub mod Main
