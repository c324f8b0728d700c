-- What a reader must believe: what bodies do when they run.
pub mod Assigned
pub mod Meaning
pub mod Ran
pub mod Typed
pub mod Laws
-- Inner facts: what the code hands out, and the body of a test.
pub mod Run
pub mod Samples
