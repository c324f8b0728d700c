pub mod Begins
pub mod TreesAreCode
