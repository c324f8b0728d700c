-- What the crate's proofs cite.
pub mod Answered
pub mod Stable
pub mod Judging
pub mod Order
pub mod Items
