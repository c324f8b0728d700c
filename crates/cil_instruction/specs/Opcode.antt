-- The instructions: their opcodes and operands.
use Rattle.std.specs.Prelude.{ℕ, Bool, Option, ◌==◌, find}
use Rattle.std.specs.List.{list_any}
use Rattle.cil_instruction.specs.declared.opcode.Op.{Op}
use Rattle.cil_instruction.specs.declared.opcode.Operand.{Operand}
use Rattle.cil_instruction.specs.declared.opcode.Operand.TheVariants.{Absent, Var8, Var16, Int8, Int32, Int64, Token, Target8, Target32, Switch}
use Rattle.cil_instruction.specs.declared.opcode.TheConstants.{TABLE, LEFT_OUT}

-- a line of the table: an opcode, its mnemonic and the kind of its operand
abbrev pub Line : Type 0
Line = ℕ × Op × Operand

-- the bytes of an operand, without the cases of a switch
abbrev pub operand_len : Operand → ℕ
operand_len Absent = 0
operand_len Var8 = 1
operand_len Var16 = 2
operand_len Int8 = 1
operand_len Int32 = 4
operand_len Int64 = 8
operand_len Token = 4
operand_len Target8 = 1
operand_len Target32 = 4
operand_len Switch = 4

-- the table's line for an opcode, if it has one
abbrev pub entry_of : ℕ → Option Line
entry_of code = find (λ e. e.0 == code) TABLE

-- the standard has the opcode, but it isn't taken
abbrev pub is_left_out : ℕ → Bool
is_left_out code = list_any (λ c. c == code) LEFT_OUT
