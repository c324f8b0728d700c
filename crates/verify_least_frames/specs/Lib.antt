-- What a reader must believe: that least frames exist.
pub mod Exist
