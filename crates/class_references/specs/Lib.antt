-- What a reader must believe: what a reference text is.
pub mod References
pub mod Laws
-- Inner facts, which only serve proofs.
pub mod TextRows
