-- What a reader must believe: which own types and own members fail which condition, and which failure comes first.
pub mod Own
pub mod Types
pub mod Members
pub mod Profile
-- inner facts, which serve proofs
pub mod Marks
pub mod Shapes
