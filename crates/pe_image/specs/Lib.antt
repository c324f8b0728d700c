-- What a reader must believe: an image, and what is wrong with a file that is none.
pub mod Number
pub mod Headers
pub mod Sections
pub mod Cli
pub mod Image
pub mod Fault
pub mod Laws
-- Inner facts: what is kept in memory.
pub mod Table
pub mod Within
pub mod Blocks
pub mod View
pub mod IndexView
