-- What a reader must believe: which trees are the same text.
pub mod Spots
pub mod Bare
pub mod BareUnits
