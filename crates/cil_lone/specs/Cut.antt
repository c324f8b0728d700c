-- The code of a lone body, cut into instructions without gap (ECMA-335 II.25.4).
use Rattle.std.specs.Prelude.{◌≡◌, ℕ, ◌+◌, List, [], ◌∷◌, length, drop, Option, None, Some, Result, Ok, Err, nat_lt, if◌then◌else◌}
use Rattle.cil_instruction.specs.declared.instruction.Simple.{Simple}
use Rattle.cil_lone.specs.declared.row.Row.{Row}
use Rattle.cil_lone.specs.declared.row.Row.TheVariants.{Load, Binary, Return, Beyond}
use Rattle.cil_lone.specs.declared.standalone.Stop.{Stop}
use Rattle.cil_lone.specs.declared.standalone.Stop.TheVariants.{NotYet, Truncated}
use Rattle.cil_instruction.specs.Opcode.{Line, operand_len, entry_of}
use Rattle.cil_lone.specs.Row.{row_of, size_of}
use Rattle.cil_instruction.specs.Instruction.{number_of}

-- the instruction of a line of the table, where its operand stands behind the opcode
abbrev pub with_operand : Line → List ℕ → Result Simple Stop
with_operand e bytes =
    if nat_lt (length bytes) (operand_len e.2) then Err Truncated
    else Ok (record { op = e.1; arg = number_of e.2 bytes })

-- a lone body has the instruction, unless its row is beyond it
abbrev pub with_row : ℕ → Row → Line → List ℕ → Result Simple Stop
with_row code (Load source) e bytes = with_operand e bytes
with_row code (Binary two) e bytes = with_operand e bytes
with_row code Return e bytes = with_operand e bytes
with_row code Beyond e bytes = Err (NotYet code)

abbrev pub with_line : ℕ → Option Line → List ℕ → Result Simple Stop
with_line code None bytes = Err (NotYet code)
with_line code (Some e) bytes = with_row code (row_of e.1) e bytes

-- the instruction of a lone body that the bytes begin with, or why they begin with none
abbrev pub lone_at : List ℕ → Result Simple Stop
lone_at [] = Err Truncated
lone_at (b ∷ bytes) = with_line b (entry_of b) bytes

-- an instruction and its place
abbrev pub Placed : Type 0
Placed = ℕ × Simple

-- The bytes from place `at` on are these instructions, one directly behind the other, up to place `end`,
-- and then the rest.
abbrev pub Cuts : ℕ → List ℕ → List Placed → ℕ → List ℕ → Type 0
Cuts at bytes [] end rest = (end ≡ at) × (rest ≡ bytes)
Cuts at bytes (e ∷ code) end rest =
    (e.0 ≡ at) × (lone_at bytes ≡ Ok e.1) × Cuts (at + size_of e.1.op) (drop (size_of e.1.op) bytes) code end rest

-- From place `at` on these instructions stand one directly behind the other, up to place `end`.
abbrev pub IsConsecutive : ℕ → List Placed → ℕ → Type 0
IsConsecutive at [] end = end ≡ at
IsConsecutive at (e ∷ code) end = (e.0 ≡ at) × IsConsecutive (at + size_of e.1.op) code end
