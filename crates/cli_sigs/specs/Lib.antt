-- What a reader must believe: what is wrong with a signature of a form, which rows are asked for one, and which is the first that fails.
pub mod Forms
pub mod Rows
pub mod First
pub mod Laws
