-- What a reader must believe: which rows fail which condition, and which failure comes first.
pub mod Methods
pub mod Rows
pub mod Profile
pub mod Laws
-- inner facts, which serve proofs
pub mod Judged
