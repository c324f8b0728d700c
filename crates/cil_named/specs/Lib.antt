-- What a reader must believe: the tokens that a body names.
pub mod Instructions
pub mod Bodies
