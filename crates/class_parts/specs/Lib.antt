-- What a reader must believe: the first cycle, and orders of types.
pub mod Chains
pub mod Orders
-- Inner facts: what the code goes by.
pub mod Above
