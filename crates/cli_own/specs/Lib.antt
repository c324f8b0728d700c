-- What a reader must believe: which interfaces own types name, and their rows.
pub mod Interfaces
pub mod Rows
