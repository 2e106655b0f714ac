pub mod Row
pub mod Rows
