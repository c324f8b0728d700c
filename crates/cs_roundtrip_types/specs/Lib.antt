-- What a reader must believe: what it is to be read back.
pub mod Laws
-- Inner facts, which only serve proofs.
pub mod Spells
