-- Rows of NestedClass, and lists of names.
pub mod Nested
pub mod Lists
