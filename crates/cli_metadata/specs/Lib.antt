-- What a reader must believe: the tables of the standard, what stands in metadata, what is wrong with bytes that aren't
-- metadata, and what the rows and heaps hold.
pub mod Numbers
pub mod Standard
pub mod Widths
pub mod Metadata
pub mod Standing
pub mod Wrong
pub mod Laws
-- Inner facts: the crate's constants, and what is read step by step.
pub mod Tables
pub mod Reading
pub mod Root
pub mod RootViews
pub mod Layout
pub mod Read
