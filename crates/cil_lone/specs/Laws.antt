-- What follows from the definitions of a lone body.
use Rattle.std.specs.Prelude.{◌≡◌, ℕ, ◌<◌, List, length, All, Ok}
use Rattle.std.specs.Int.{w32}
use Rattle.std.specs.Int.RustNames.{FitsSigned}
use Rattle.cil_instruction.specs.declared.opcode.Op.{Op}
use Rattle.cil_lone.specs.declared.standalone.LoneFault.{LoneFault}
use Rattle.cil_instruction.specs.declared.instruction.Simple.{Simple}
use Rattle.cil_instruction.specs.declared.instruction.Found.{Found}
use Rattle.cil_instruction.specs.Instruction.{instruction_at}
use Rattle.cil_lone.specs.declared.row.Row.TheVariants.{Beyond}
use Rattle.cil_lone.specs.Row.{size_of, row_of}
use Rattle.cil_lone.specs.Cut.{Placed, IsConsecutive, lone_at}
use Rattle.cil_lone.specs.Lone.{IsLone, IsLoneFault, Walks}

-- a file is a lone body in one way
abbrev pub HasOneCode : Type 0
HasOneCode = (file : List ℕ) (code other : List Placed) → IsLone file code → IsLone file other → code ≡ other

-- a file with a fault is no lone body
abbrev pub HasNoFault : Type 0
HasNoFault = (file : List ℕ) (code : List Placed) (fault : LoneFault) → IsLone file code → IsLoneFault file fault → ⊥

-- a file has one fault
abbrev pub HasOneFault : Type 0
HasOneFault = (file : List ℕ) (fault other : LoneFault) → IsLoneFault file fault → IsLoneFault file other → fault ≡ other

-- the code of a lone body walks from the empty stack
abbrev pub CodeWalks : Type 0
CodeWalks = (file : List ℕ) (code : List Placed) → IsLone file code → Walks 0 code

-- each operand of a lone body is an int
abbrev pub OperandsFit : Type 0
OperandsFit = (file : List ℕ) (code : List Placed) → IsLone file code → All (λ e. FitsSigned w32 e.1.arg) code

-- the instructions of a lone body fill the file behind its first byte
abbrev pub CodeIsConsecutive : Type 0
CodeIsConsecutive = (file : List ℕ) (code : List Placed) → IsLone file code → IsConsecutive 1 code (length file)

-- each instruction of a lone body stands in the file
abbrev pub PlacesAreWithin : Type 0
PlacesAreWithin = (file : List ℕ) (code : List Placed) → IsLone file code → All (λ e. e.0 < length file) code

-- an instruction has at least one byte
abbrev pub InstructionsHaveBytes : Type 0
InstructionsHaveBytes = (op : Op) → 0 < size_of op

-- where an instruction of a lone body stands, all bodies have that instruction, with as many bytes
abbrev pub IsOfAllBodies : Type 0
IsOfAllBodies =
    (bytes : List ℕ) (i : Simple) → lone_at bytes ≡ Ok i → (f : Found) × (instruction_at bytes ≡ Ok f) × (f.simple ≡ i) × (f.size ≡ size_of i.op)

-- where an instruction stands that a lone body has, that instruction stands in a lone body
abbrev pub IsOfLoneBodies : Type 0
IsOfLoneBodies =
    (bytes : List ℕ) (f : Found) → instruction_at bytes ≡ Ok f → (row_of f.simple.op ≡ Beyond → ⊥) → lone_at bytes ≡ Ok f.simple
