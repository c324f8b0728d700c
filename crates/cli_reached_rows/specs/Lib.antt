-- What a reader must believe: which rows an assembly reaches.
pub mod Reached
pub mod Assembly
