-- What a reader must believe: which methods are the accessors of a property.
pub mod Accessors
-- Inner facts: what is written down row by row.
pub mod Put
