-- What a reader must believe: texts of metadata, which types stand in which, and the names of types.
pub mod Texts
pub mod Outers
pub mod Names
