-- What a reader must believe: what a text is read as.
pub mod Texts
-- Inner facts, which only serve proofs.
pub mod Told
