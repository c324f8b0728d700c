-- What a reader must believe: what flags say.
pub mod Flags
