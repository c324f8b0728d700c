-- What a reader must believe: what a cell says, which cells of which rows are asked, and which is the first that says nothing.
pub mod Cells
pub mod Rows
pub mod First
