-- What a reader must believe: a lone body, and what is wrong with a file that is none.
pub mod Row
pub mod Cut
pub mod Lone
pub mod Laws
