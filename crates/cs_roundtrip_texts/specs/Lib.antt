-- What a reader must believe: the notes of trees, and that what is printed is read back.
pub mod Notes
pub mod Laws
-- Inner facts, which only serve proofs.
pub mod Lines
