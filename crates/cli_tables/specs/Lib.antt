-- What a reader must believe: which column each field is.
pub mod Assemblies
pub mod Types
pub mod Members
pub mod Properties
