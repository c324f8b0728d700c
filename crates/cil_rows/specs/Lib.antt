-- What a reader must believe: what the instructions do.
pub mod Operand
pub mod Instruction
pub mod Flow
pub mod Slots
pub mod Code
