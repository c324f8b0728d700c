-- What a reader must believe: what a type extends, which bases tell what it is, the type of an enum's values, and what it is.
pub mod Bases
pub mod System
pub mod Underlying
pub mod Kinds
