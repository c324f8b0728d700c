-- Code that is cut into instructions without gap, and where they lead (ECMA-335 II.25.4, III.1.2.1, III.3). Places in the
-- code count from its first byte.
use Rattle.std.specs.Prelude.{◌≡◌, ◌≢◌, ℕ, ◌+◌, ◌*◌, ◌≤◌, ◌<◌, ℤ, pos, negsuc, ◌+ℤ◌, List, [], ◌∷◌, length, take, drop, map, slice_index, Ok, Err, All, Contains}
use Rattle.dc_base.specs.declared.failure.Or.{Or}
use Rattle.dc_base.specs.declared.failure.Or.TheVariants.{NoMemory, Fault}
use Rattle.cil_instruction.specs.declared.opcode.Operand.{Operand}
use Rattle.cil_instruction.specs.declared.opcode.Operand.TheVariants.{Target8, Target32, Switch}
use Rattle.cil_instruction.specs.declared.instruction.Found.{Found}
use Rattle.cil_body.specs.declared.header.Header.{Header}
use Rattle.cil_instruction.specs.declared.fault.BodyFault.{BodyFault}
use Rattle.cil_instruction.specs.declared.fault.BodyCause.{BodyCause}
use Rattle.cil_instruction.specs.declared.fault.BodyCause.TheVariants.{BadTarget}
use Rattle.cil_instruction.specs.declared.instruction.Instr.{Instr}
use Rattle.cil_instruction.specs.Instruction.{instruction_at, numbers}
use Rattle.dc_causes.specs.First.{IsFirstOff}
use Rattle.cil_body.specs.Header.{IsHeader}
use Rattle.byteorder.specs.Endian.{little_number}

-- an instruction as it stands in the code, and its place
abbrev pub Placed : Type 0
Placed = ℕ × Found

-- The bytes from place `at` on are these instructions, one directly behind the other, up to place `end`,
-- and then the rest.
abbrev pub Reads : ℕ → List ℕ → List Placed → ℕ → List ℕ → Type 0
Reads at bytes [] end rest = (end ≡ at) × (rest ≡ bytes)
Reads at bytes (e ∷ code) end rest =
    (e.0 ≡ at) × (instruction_at bytes ≡ Ok e.1) × Reads (at + e.1.size) (drop e.1.size bytes) code end rest

-- the bytes of the code
abbrev pub code_of : List ℕ → Header → List ℕ
code_of bytes h = take h.size (drop h.start bytes)

-- the bytes have this header and all the code that it speaks of, which isn't longer than the limit
pub record IsWhole (bytes : List ℕ) (limit : ℕ) (h : Header) : Type 0 where
  pub header : IsHeader bytes h
  pub short : h.size ≤ limit
  pub within : h.start + h.size ≤ length bytes

-- the code is these instructions
pub record IsCode (bytes : List ℕ) (limit : ℕ) (h : Header) (code : List Placed) : Type 0 where
  pub whole : IsWhole bytes limit h
  pub reads : Reads 0 (code_of bytes h) code h.size []

-- At this place in the code the cut stops: instructions stand up to it, and none stands there.
pub record IsStop (bytes : List ℕ) (limit : ℕ) (h : Header) (place : ℕ) (cause : BodyCause) : Type 0 where
  pub whole : IsWhole bytes limit h
  pub code : List Placed
  pub rest : List ℕ
  pub reads : Reads 0 (code_of bytes h) code place rest
  pub more : rest ≢ []
  pub none : instruction_at rest ≡ Err cause

-- How far an instruction may go, from the next one on: a branch by its operand, a switch by its cases, which stand
-- behind the opcode and the count.
abbrev pub jumps_by : Operand → ℤ → List ℕ → List ℤ
jumps_by Target8 arg bytes = arg ∷ []
jumps_by Target32 arg bytes = arg ∷ []
jumps_by Switch arg bytes = numbers (little_number 4 (drop 1 bytes)) (drop 5 bytes)
jumps_by _ arg bytes = []

abbrev pub jumps_of : List ℕ → Placed → List ℤ
jumps_of code e = jumps_by e.1.operand e.1.simple.arg (drop e.0 code)

-- where such a jump leads to
abbrev pub aim_of : Placed → ℤ → ℤ
aim_of e jump = pos (e.0 + e.1.size) +ℤ jump

-- the places where instructions start
abbrev pub starts_of : List Placed → List ℕ
starts_of code = map (λ e. e.0) code

-- an instruction starts at this place
abbrev pub IsStart : List ℕ → ℤ → Type 0
IsStart starts place = (start : ℕ) × (pos start ≡ place) × Contains starts start

-- the jump leads to a place where an instruction starts
abbrev pub HasAim : List ℕ → Placed → ℤ → Type 0
HasAim starts e jump = IsStart starts (aim_of e jump)

-- each jump of the instruction leads to the start of one
abbrev pub IsAimed : List ℕ → List ℕ → Placed → Type 0
IsAimed bytes starts e = All (HasAim starts e) (jumps_of bytes e)

-- a place, where it isn't negative
abbrev pub place_of : ℤ → ℕ
place_of (pos n) = n
place_of (negsuc n) = 0

-- the cases of a switch are all there
abbrev pub HasCases : Operand → List ℕ → Type 0
HasCases operand bytes = operand ≡ Switch → 5 + 4 * little_number 4 (drop 1 bytes) ≤ length bytes

-- the jump leads to this place, and an instruction starts there
abbrev pub IsTarget : List ℕ → Placed → ℤ → ℕ → Type 0
IsTarget starts e jump place = (pos place ≡ aim_of e jump) × Contains starts place

-- each of these jumps leads to the start of an instruction
abbrev pub AreAims : List ℕ → Placed → List ℤ → Type 0
AreAims starts e jumps = All (HasAim starts e) jumps

-- besides, these are the places that they lead to
abbrev pub AreTargets : List ℕ → Placed → List ℤ → List ℕ → Type 0
AreTargets starts e jumps places =
    AreAims starts e jumps × (places ≡ map (λ jump. place_of (aim_of e jump)) jumps)

-- an instruction with the places that its jumps lead to
abbrev pub instr_of : List ℕ → Placed → ℕ × Instr
instr_of bytes e = (
  e.0,
  record {
    op = e.1.simple.op;
    arg = e.1.simple.arg;
    targets = map (λ jump. place_of (aim_of e jump)) (jumps_of bytes e);
  },
)

-- the jumps of the instruction are aimed, and this is it with the places that they lead to
abbrev pub IsInstr : List ℕ → List ℕ → Placed → Instr → Type 0
IsInstr bytes starts e instr = IsAimed bytes starts e × (instr ≡ (instr_of bytes e).1)

-- the places rise
abbrev pub AreInOrder : List ℕ → Type 0
AreInOrder starts = (i j : ℕ) → i ≤ j → j < length starts → slice_index starts i ≤ slice_index starts j

-- in code that begins `start` bytes behind the header's first, the cut stops, for this reason
abbrev pub IsCutFault : List ℕ → ℕ → Or BodyFault → Type 0
IsCutFault code start NoMemory = Unit {0}
IsCutFault code start (Fault fault) =
    (placed : List Placed) × (place : ℕ) × (rest : List ℕ) × Reads 0 code placed place rest × (rest ≢ [])
    × (instruction_at rest ≡ Err fault.cause) × (fault.at ≡ start + place)

-- an instruction of such code leads to a place at which none starts, and none before it does so
abbrev pub IsAimFault : List ℕ → List Placed → ℕ → Or BodyFault → Type 0
IsAimFault code placed start NoMemory = Unit {0}
IsAimFault code placed start (Fault fault) =
    (e : Placed) × IsFirstOff (IsAimed code (starts_of placed)) placed e × (fault.cause ≡ BadTarget) × (fault.at ≡ start + e.0)
