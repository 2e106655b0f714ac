pub mod GrammarRefusals
pub mod Refusals
pub mod Buffers
pub mod Lists
