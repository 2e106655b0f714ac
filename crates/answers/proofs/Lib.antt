-- What a `?` hands on, for the functions of the crates above.
pub mod HandedOn
pub mod Gates
pub mod Stores
pub mod WrittenFromFront
pub mod Tabulate
-- What a promise settles that is a function of what was given.
pub mod FunctionSettles
