-- What frames unite to.
pub mod Sets
pub mod Join
-- law::least_frames_exist
pub mod Frames
