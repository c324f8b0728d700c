-- What a reader must believe: how tokens are written, and which need a gap between them.
pub mod Spelled
pub mod Written
