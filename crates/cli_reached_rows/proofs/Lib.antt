-- Lists without what has no number, and the same set in tokens and in numbers.
pub mod Kept
pub mod Sets
