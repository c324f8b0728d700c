-- What a reader must believe: the depths of a text.
pub mod Depths
