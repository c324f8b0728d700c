-- What a reader must believe: what a level is.
pub mod Asked
