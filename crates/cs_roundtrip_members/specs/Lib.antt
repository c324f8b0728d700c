-- What a reader must believe: which members are well formed, and that they are read back.
pub mod Members
pub mod Laws
-- Inner facts, which only serve proofs.
pub mod Inside
