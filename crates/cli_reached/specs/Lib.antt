-- What a reader must believe: which rows are reached.
pub mod Reached
-- inner facts, which serve proofs
pub mod Visited
