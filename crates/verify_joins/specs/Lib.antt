-- Inner facts: what is said of what two unite to.
pub mod Once
