-- Which calls cite each file in the proof of their clauses. A file without a call serves the files that are cited.
pub mod Sets
pub mod Basics
pub mod Bind
pub mod Either
pub mod Limited
pub mod Turns
pub mod Whole
pub mod Deeper
