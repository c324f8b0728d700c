-- What a reader must believe: how a reader is put together of steps, and what is said of its answers.
pub mod First
pub mod Step
pub mod Causes
pub mod Rows
pub mod Answer
