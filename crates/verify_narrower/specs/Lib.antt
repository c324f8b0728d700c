-- What a reader must believe: what accepts a frame accepts each frame in it.
pub mod Narrower
