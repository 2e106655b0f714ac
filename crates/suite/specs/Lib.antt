pub mod Text
pub mod Pieces
pub mod Answered
pub mod Begun
pub mod Filled
