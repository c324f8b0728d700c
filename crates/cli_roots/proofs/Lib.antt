-- Tokens row by row.
pub mod First
