-- What a reader must believe: how numbers are spelled, and which words are names.
pub mod Identifiers
pub mod Spelling
