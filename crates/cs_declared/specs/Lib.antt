-- What a reader must believe: which types a text declares, and in which order.
pub mod Names
pub mod Types
-- Inner facts: the same of the values that the code holds.
pub mod Seen
