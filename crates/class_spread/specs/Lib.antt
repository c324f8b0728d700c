-- What a reader must believe: what a table of interfaces tells.
pub mod Spreads
-- Inner facts: a table that is under way.
pub mod Filled
