-- What a reader must believe: which instructions are aims.
pub mod Aims
