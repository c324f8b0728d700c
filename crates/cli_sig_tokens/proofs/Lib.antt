-- A type by itself and a field of it, what readings say, and that a place names one list.
pub mod Bare
pub mod Said
pub mod One
