-- What a reader must believe: which row that is reached means nothing, and which of them is told.
pub mod Unresolved
