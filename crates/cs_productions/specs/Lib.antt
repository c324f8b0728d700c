-- What a reader must believe: the productions of types and expressions.
pub mod Kinds
pub mod Tokens
pub mod Types
pub mod Inner
pub mod Calls
pub mod Primaries
pub mod Operators
pub mod Levels
pub mod Laws
