-- What a reader must believe: what an open file can be read of.
pub mod System
