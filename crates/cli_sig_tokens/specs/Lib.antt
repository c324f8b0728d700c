-- What a reader must believe: which tokens the types of signatures name, what a type by itself is, and that a place names one list.
pub mod Spec
pub mod Tokens
pub mod Laws
