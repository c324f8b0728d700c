-- What follows from the definition of an instruction.
use Rattle.std.specs.Prelude.{◌≡◌, ℕ, ◌+◌, ◌*◌, ◌<◌, ◌≤◌, List, length, drop, Ok, Err}
use Rattle.byteorder.specs.Endian.{little_number}
use Rattle.cil_instruction.specs.declared.opcode.Operand.TheVariants.{Switch}
use Rattle.cil_instruction.specs.declared.instruction.Found.{Found}
use Rattle.cil_instruction.specs.declared.fault.BodyCause.{BodyCause}
use Rattle.cil_instruction.specs.declared.fault.BodyCause.TheVariants.{Truncated, BadOpcode, OutOfProfile}
use Rattle.cil_instruction.specs.Instruction.{number_of, instruction_at}

-- an instruction has at least one byte
abbrev pub HasBytes : Type 0
HasBytes = (bytes : List ℕ) (f : Found) → instruction_at bytes ≡ Ok f → 0 < f.size

-- its bytes are all there
abbrev pub StandsWithin : Type 0
StandsWithin = (bytes : List ℕ) (f : Found) → instruction_at bytes ≡ Ok f → f.size ≤ length bytes

-- a switch has one byte for its opcode, four for the count of its cases, and four for each
abbrev pub SwitchHasCases : Type 0
SwitchHasCases =
    (bytes : List ℕ) (f : Found) → instruction_at bytes ≡ Ok f → f.operand ≡ Switch → f.size ≡ 5 + 4 * little_number 4 (drop 1 bytes)

-- its number is that of its operand's bytes
abbrev pub OperandIsSpelled : Type 0
OperandIsSpelled =
    (bytes : List ℕ) (f : Found) → instruction_at bytes ≡ Ok f → (behind : List ℕ) × (f.simple.arg ≡ number_of f.operand behind)

-- a cause why no instruction stands at some bytes
abbrev pub IsCutCause : BodyCause → Type 0
IsCutCause Truncated = Unit {0}
IsCutCause (BadOpcode code) = Unit {0}
IsCutCause (OutOfProfile code) = Unit {0}
IsCutCause _ = ⊥

-- where no instruction stands, the bytes end within it, or its opcode isn't taken
abbrev pub CauseIsOfCut : Type 0
CauseIsOfCut = (bytes : List ℕ) (cause : BodyCause) → instruction_at bytes ≡ Err cause → IsCutCause cause
