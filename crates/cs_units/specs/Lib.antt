-- What a reader must believe: the productions of members, types and whole texts.
pub mod Kinds
pub mod Modifiers
pub mod Members
pub mod Declarations
pub mod Laws
