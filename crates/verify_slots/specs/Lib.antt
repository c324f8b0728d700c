-- What a reader must believe: which slot holds another, which frame does, and what united means.
pub mod Slots
-- Inner facts: sets of types.
pub mod Sets
