-- What a reader must believe.
pub mod Table
-- What the final statements say besides.
pub mod TableCertificates
-- What the functions that write go by; nobody has to believe it.
pub mod Writing
