-- Inner facts: what the code goes by.
pub mod Explicit
pub mod Known
pub mod Open
pub mod Marked
pub mod Standing
pub mod Progress
