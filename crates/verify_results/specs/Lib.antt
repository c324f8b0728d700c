-- Inner facts: a slot twice.
pub mod Twice
