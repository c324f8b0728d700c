-- What a reader must believe: what a list column's cells say.
pub mod Starts
pub mod Lists
pub mod Laws
