-- Names and their index, and a walk from row to row.
pub mod Named
pub mod Marks
pub mod Settled
