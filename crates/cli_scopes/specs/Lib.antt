-- What a reader must believe: the names of types, the rows of TypeRef as they stand, and the types that they mean.
pub mod Names
pub mod Refs
pub mod Meant
-- Inner facts: an index of names, and what a walk keeps.
pub mod Numbered
pub mod Walk
