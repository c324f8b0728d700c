-- A lone body: a file that is one body with a tiny header (ECMA-335 II.25.4.2), which takes four ints and returns one.
use Rattle.std.specs.Prelude.{◌≡◌, ◌≢◌, ◌⊎◌, ℕ, ◌+◌, ◌-◌, ◌/◌, ◌%◌, ◌<◌, ◌≤◌, List, [], ◌∷◌, ◌++◌, length, take, drop, Err}
use Rattle.dc_base.specs.declared.failure.Or.{Or}
use Rattle.dc_base.specs.declared.failure.Or.TheVariants.{NoMemory, Fault}
use Rattle.cil_lone.specs.declared.row.Row.{Row}
use Rattle.cil_lone.specs.declared.row.Row.TheVariants.{Load, Binary, Return, Beyond}
use Rattle.cil_instruction.specs.declared.instruction.Simple.{Simple}
use Rattle.cil_lone.specs.declared.standalone.Stop.{Stop}
use Rattle.cil_lone.specs.declared.standalone.Stop.TheVariants.{NotYet as NotYetHere, Truncated as TruncatedHere}
use Rattle.cil_lone.specs.declared.standalone.LoneFault.{LoneFault}
use Rattle.cil_lone.specs.declared.standalone.LoneFault.TheVariants.{BadHeader, Truncated, NotYet, Underflow, BadReturn, Trailing}
use Rattle.cil_lone.specs.Row.{row_of}
use Rattle.cil_lone.specs.Cut.{Placed, Cuts, lone_at}

-- A tiny header is one byte: 2 in the low two bits, and above them how many bytes of code follow, at least one.
abbrev pub HasHeader : List ℕ → ℕ → Type 0
HasHeader [] size = ⊥
HasHeader (h ∷ bytes) size = (h % 4 ≡ 2) × (h / 4 ≡ size) × (0 < size)

-- the bytes of the code, as many as the header says
abbrev pub code_bytes : List ℕ → ℕ → List ℕ
code_bytes file size = take size (drop 1 file)

-- the file has a header and all the code that it speaks of
abbrev pub IsWhole : List ℕ → ℕ → Type 0
IsWhole file size = HasHeader file size × (size < length file)

-- the file's code is these instructions
abbrev pub IsCut : List ℕ → ℕ → List Placed → Type 0
IsCut file size code = IsWhole file size × Cuts 1 (code_bytes file size) code (size + 1) []

-- the slots on a stack of `depth` slots after an instruction: a load adds one, an operator takes two and leaves one
abbrev pub depth_after : ℕ → Row → ℕ
depth_after depth (Load source) = depth + 1
depth_after depth (Binary two) = depth - 1
depth_after depth Return = depth - 1
depth_after depth Beyond = depth

-- the slots on the stack after these instructions
abbrev pub depth_of : ℕ → List Placed → ℕ
depth_of depth [] = depth
depth_of depth (e ∷ code) = depth_of (depth_after depth (row_of e.1.op)) code

abbrev pub IsOperator : Row → Type 0
IsOperator (Binary two) = Unit {0}
IsOperator _ = ⊥

abbrev pub IsReturn : Row → Type 0
IsReturn Return = Unit {0}
IsReturn _ = ⊥

-- the code has this instruction at this place, with these before it and those after it
abbrev pub Stands : List Placed → List Placed → ℕ → Simple → List Placed → Type 0
Stands code before place i after = code ≡ before ++ (place, i) ∷ after

-- at this place an operator finds fewer than two slots
pub record Underflows (code : List Placed) (place : ℕ) : Type 0 where
  pub before : List Placed
  pub after : List Placed
  pub i : Simple
  pub stands : Stands code before place i after
  pub operator : IsOperator (row_of i.op)
  pub shallow : depth_of 0 before < 2

-- at this place a ret finds another depth than one, or has code behind it
pub record ReturnsBadly (code : List Placed) (place : ℕ) : Type 0 where
  pub before : List Placed
  pub after : List Placed
  pub i : Simple
  pub stands : Stands code before place i after
  pub returns : IsReturn (row_of i.op)
  pub badly : (depth_of 0 before ≢ 1) ⊎ (after ≢ [])

-- the code has no ret
abbrev pub HasNoReturn : List Placed → Type 0
HasNoReturn code = (before after : List Placed) (place : ℕ) (i : Simple) → Stands code before place i after → IsReturn (row_of i.op) → ⊥

-- at this place, which may be the code's end, the code doesn't return as it has to
abbrev pub IsBadReturn : List Placed → ℕ → ℕ → Type 0
IsBadReturn code end place = ReturnsBadly code place ⊎ ((place ≡ end) × HasNoReturn code)

-- before this place nothing is wrong with the stack and the end of the code
abbrev pub IsFineBefore : List Placed → ℕ → ℕ → Type 0
IsFineBefore code end place = (p : ℕ) → p < place → (Underflows code p → ⊥) × (IsBadReturn code end p → ⊥)

-- each operator finds two slots, and the code ends with its one ret, which finds one slot
abbrev pub IsBalanced : List Placed → ℕ → Type 0
IsBalanced code end = (p : ℕ) → (Underflows code p → ⊥) × (IsBadReturn code end p → ⊥)

-- the first place where the code does wrong by the stack or the end
abbrev pub IsBreak : List Placed → ℕ → LoneFault → Type 0
IsBreak code end (Underflow place) = IsFineBefore code end place × Underflows code place
IsBreak code end (BadReturn place) = IsFineBefore code end place × IsBadReturn code end place
IsBreak code end _ = ⊥

-- the file is a lone body with these instructions
pub record IsLone (file : List ℕ) (code : List Placed) : Type 0 where
  pub size : ℕ
  pub cut : IsCut file size code
  pub balanced : IsBalanced code (size + 1)
  pub ended : length file ≡ size + 1

-- At this place the cut of the file's code stops: instructions stand up to it, and none stands there. The bytes are
-- those of the code from there on.
pub record Stops (file : List ℕ) (place : ℕ) (bytes : List ℕ) : Type 0 where
  pub size : ℕ
  pub whole : IsWhole file size
  pub code : List Placed
  pub cut : Cuts 1 (code_bytes file size) code place bytes
  pub more : bytes ≢ []

-- the file's code is cut, and so far nothing is wrong before this place
pub record Reaches (file : List ℕ) (place : ℕ) : Type 0 where
  pub size : ℕ
  pub code : List Placed
  pub cut : IsCut file size code
  pub fine : IsFineBefore code (size + 1) place

-- What is wrong with a file that is no lone body. Each fault comes only where those listed before it don't; of Underflow
-- and BadReturn the one at the least place.
abbrev pub IsLoneFault : List ℕ → LoneFault → Type 0
IsLoneFault file (BadHeader place) = (place ≡ 0) × ((size : ℕ) → HasHeader file size → ⊥)
IsLoneFault file (Truncated place) =
    ((size : ℕ) × HasHeader file size × (length file < size + 1) × (place ≡ length file))
    ⊎ ((bytes : List ℕ) × Stops file place bytes × (lone_at bytes ≡ Err TruncatedHere))
IsLoneFault file (NotYet byte place) = (bytes : List ℕ) × Stops file place bytes × (lone_at bytes ≡ Err (NotYetHere byte))
IsLoneFault file (Underflow place) = (at : Reaches file place) × Underflows at.code place
IsLoneFault file (BadReturn place) = (at : Reaches file place) × IsBadReturn at.code (at.size + 1) place
IsLoneFault file (Trailing place) =
    (size : ℕ) × (code : List Placed) × IsCut file size code × IsBalanced code (size + 1) × (place ≡ size + 1) × (place < length file)

-- the fault of a file whose cut stops at this place
abbrev pub stop_of : Stop → ℕ → LoneFault
stop_of (NotYetHere byte) place = NotYet byte place
stop_of TruncatedHere place = Truncated place

-- an instruction on a stack of `depth` slots does its part, where `code` stands behind it and `goes_on` says that
-- `code` does too
abbrev pub DoesItsPart : Row → ℕ → List Placed → Type 0 → Type 0
DoesItsPart (Load source) depth code goes_on = goes_on
DoesItsPart (Binary two) depth code goes_on = (2 ≤ depth) × goes_on
DoesItsPart Return depth code goes_on = (depth ≡ 1) × (code ≡ [])
DoesItsPart Beyond depth code goes_on = ⊥

-- begun on a stack of `depth` slots, the code runs to its last instruction, a ret that finds one slot, and each
-- operator before it finds two
abbrev pub Walks : ℕ → List Placed → Type 0
Walks depth [] = ⊥
Walks depth (e ∷ code) =
    DoesItsPart (row_of e.1.op) depth code (Walks (depth_after depth (row_of e.1.op)) code)
