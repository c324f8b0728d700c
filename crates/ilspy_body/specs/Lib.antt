-- What a reader must believe: the theorem, and which body a text has.
pub mod Flat
pub mod Tree
pub mod Layout
pub mod Elaborate
pub mod Theorem
