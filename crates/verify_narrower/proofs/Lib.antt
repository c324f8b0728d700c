-- A slot in a slot, and a frame in a frame.
pub mod View
-- What is asked of slots, and what they are, at a narrower frame.
pub mod Kept
pub mod Taken
pub mod Puts
pub mod Members
pub mod Gaps
pub mod Elements
pub mod Results
pub mod Once
-- All of it: law::narrower_frames_are_accepted.
pub mod Whole
