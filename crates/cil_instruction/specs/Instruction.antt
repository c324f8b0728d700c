-- One instruction in the bytes of some code (ECMA-335 III.1.2.1).
use Rattle.std.specs.Prelude.{ℕ, zero, suc, ◌+◌, ◌*◌, List, [], ◌∷◌, Option, None, Some, Result, Ok, Err, ℤ, pos, length, drop, nat_lt, ◌==◌, if◌then◌else◌, slice_index}
use Rattle.std.specs.Int.{cast_signed, w8, w32, w64}
use Rattle.byteorder.specs.Endian.{little_number}
use Rattle.cil_instruction.specs.declared.opcode.Operand.{Operand}
use Rattle.cil_instruction.specs.declared.opcode.Operand.TheVariants.{Absent, Var8, Var16, Int8, Int32, Int64, Token, Target8, Target32, Switch}
use Rattle.cil_instruction.specs.declared.instruction.Found.{Found}
use Rattle.cil_instruction.specs.declared.fault.BodyCause.{BodyCause}
use Rattle.cil_instruction.specs.declared.fault.BodyCause.TheVariants.{Truncated, BadOpcode, OutOfProfile}
use Rattle.cil_instruction.specs.Opcode.{Line, operand_len, entry_of, is_left_out}

-- the number that an operand's bytes spell, the least byte first, or 0 where there are none: in two's complement those
-- of a constant and of a branch
abbrev pub number_of : Operand → List ℕ → ℤ
number_of Absent bytes = pos 0
number_of Var8 bytes = pos (slice_index bytes 0)
number_of Var16 bytes = pos (little_number 2 bytes)
number_of Int8 bytes = cast_signed w8 (slice_index bytes 0)
number_of Int32 bytes = cast_signed w32 (little_number 4 bytes)
number_of Int64 bytes = cast_signed w64 (little_number 8 bytes)
number_of Token bytes = pos (little_number 4 bytes)
number_of Target8 bytes = cast_signed w8 (slice_index bytes 0)
number_of Target32 bytes = cast_signed w32 (little_number 4 bytes)
number_of Switch bytes = pos (little_number 4 bytes)

-- the bytes of an operand: a switch has four more for each case
abbrev pub operand_size : Operand → List ℕ → ℕ
operand_size Switch bytes = 4 + 4 * little_number 4 bytes
operand_size operand bytes = operand_len operand

-- the instruction of a line of the table, where its operand stands behind the `len` bytes of its opcode
abbrev pub with_line : ℕ → Line → List ℕ → Result Found BodyCause
with_line len e bytes =
    if nat_lt (length bytes) (operand_size e.2 bytes) then Err Truncated
    else Ok (record {
      simple = record { op = e.1; arg = number_of e.2 bytes };
      operand = e.2;
      size = len + operand_size e.2 bytes;
    })

-- why an opcode isn't taken
abbrev pub cause_of : ℕ → BodyCause
cause_of code = if is_left_out code then OutOfProfile code else BadOpcode code

abbrev pub with_entry : ℕ → ℕ → Option Line → List ℕ → Result Found BodyCause
with_entry len code None bytes = Err (cause_of code)
with_entry len code (Some e) bytes = with_line len e bytes

-- the instruction with this opcode of `len` bytes, where these bytes stand behind it
abbrev pub with_code : ℕ → ℕ → List ℕ → Result Found BodyCause
with_code len code bytes = with_entry len code (entry_of code) bytes

-- an opcode whose first byte is the prefix has a second one
abbrev pub prefixed : List ℕ → Result Found BodyCause
prefixed [] = Err Truncated
prefixed (c ∷ bytes) = with_code 2 (0xFE00 + c) bytes

-- the instruction that the bytes begin with, or why they begin with none
abbrev pub instruction_at : List ℕ → Result Found BodyCause
instruction_at [] = Err Truncated
instruction_at (b ∷ bytes) = if b == 0xFE then prefixed bytes else with_code 1 b bytes

-- the numbers of four bytes each, in two's complement
abbrev pub numbers : ℕ → List ℕ → List ℤ
numbers zero bytes = []
numbers (suc n) bytes = cast_signed w32 (little_number 4 bytes) ∷ numbers n (drop 4 bytes)
