-- What a reader must believe: what a row that is reached names, and the numbers of such rows.
pub mod Rows
pub mod Numbers
pub mod Lists
pub mod Laws
