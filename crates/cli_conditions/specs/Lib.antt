-- What a reader must believe: the conditions in their order, and their names.
pub mod Conditions
pub mod Laws
