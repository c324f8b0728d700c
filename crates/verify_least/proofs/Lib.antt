-- What holds of every map.
pub mod Least
-- How a least one is reached.
pub mod Climb
