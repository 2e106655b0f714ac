pub mod Digits
pub mod Lines
pub mod Room
pub mod Samples
