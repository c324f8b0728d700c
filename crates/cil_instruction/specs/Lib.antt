-- What a reader must believe: the standard's instructions, and the one that bytes begin with.
pub mod Standard
pub mod LeftOut
pub mod Instruction
pub mod Laws
-- Inner facts: the table's lines.
pub mod Opcode
