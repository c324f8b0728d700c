-- What a reader must believe: what a token means.
pub mod Meaning
