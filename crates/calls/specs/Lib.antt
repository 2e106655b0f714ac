pub mod Numbers
pub mod Called
