-- Inner facts, which only serve proofs.
pub mod Behind
