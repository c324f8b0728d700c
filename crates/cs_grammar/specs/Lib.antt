-- What a reader must believe: what a grammar derives, and what a reader of it finds.
pub mod Kinds
pub mod Grammar
pub mod Exact
pub mod Reads
pub mod Whole
pub mod Levels
