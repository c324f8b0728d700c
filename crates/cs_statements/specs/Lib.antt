-- What a reader must believe: the productions of statements.
pub mod Kinds
pub mod Jumps
pub mod Actions
pub mod Structured
pub mod Blocks
pub mod Laws
