-- All types, one behind the other.
pub mod All
