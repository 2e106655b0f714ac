pub mod LinesFit
pub mod FirstLines
pub mod MoreLines
pub mod WholeText
pub mod NightSettled
pub mod TextSettled
pub mod LongFiles
pub mod Statements
