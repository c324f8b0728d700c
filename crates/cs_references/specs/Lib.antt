-- What a reader must believe: the productions of reference texts.
pub mod Members
pub mod Declarations
pub mod Laws
