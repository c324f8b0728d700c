-- Inner facts: what is computed once of the types.
pub mod Supers
