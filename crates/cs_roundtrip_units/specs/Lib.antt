-- What a reader must believe: which types and texts are well formed, and that they are read back.
pub mod Units
pub mod Laws
