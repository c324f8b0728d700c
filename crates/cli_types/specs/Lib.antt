-- What a reader must believe: the types that tokens mean, and those that signatures say.
pub mod Named
pub mod Said
