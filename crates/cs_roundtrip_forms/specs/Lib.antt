-- What a reader must believe.
pub mod Laws
-- Inner facts, which only serve proofs.
pub mod Standing
pub mod Reading
