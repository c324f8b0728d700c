-- What a reader must believe: the machine.
pub mod Step
pub mod Meaning
