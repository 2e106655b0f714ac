-- What a reader must believe.
pub mod Figures
-- What the private functions of the crates above promise each other; nobody has to believe this.
pub mod Weights
