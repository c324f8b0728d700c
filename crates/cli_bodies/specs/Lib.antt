-- What a reader must believe: which places of a method fail which condition, and which failure comes first.
pub mod Named
pub mod Catches
pub mod Unboxes
pub mod Profile
-- inner facts, which serve proofs
pub mod Earlier
