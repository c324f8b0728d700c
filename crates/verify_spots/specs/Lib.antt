-- What a reader must believe: where instructions stand in a body, and what a method that is verified has.
pub mod Spots
pub mod Frames
pub mod Rounds
-- Inner facts: what is asked of regions.
pub mod Questions
