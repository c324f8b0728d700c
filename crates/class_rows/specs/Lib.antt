-- What a reader must believe: what makes a class table, and what is asked of one.
pub mod Types
pub mod Names
pub mod Members
pub mod Core
pub mod Unique
pub mod Bases
pub mod Implemented
pub mod Table
pub mod Lookups
