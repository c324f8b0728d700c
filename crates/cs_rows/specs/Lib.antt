-- What a reader must believe: worked rows.
pub mod Samples
pub mod Expressions
pub mod Statements
pub mod Words
