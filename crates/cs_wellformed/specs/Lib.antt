-- What a reader must believe: which trees are well formed.
pub mod Words
pub mod Standing
pub mod WellFormed
pub mod Rows
-- Inner facts, which only serve proofs.
pub mod Same
