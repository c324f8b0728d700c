-- What a reader must believe: what is asked of rows before a table is built, and what a table shows.
pub mod Buildable
pub mod Rows
-- Inner facts: what the table keeps beside its rows.
pub mod Kept
