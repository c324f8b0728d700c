pub mod Those
pub mod Listed
pub mod Accessors
pub mod Places
