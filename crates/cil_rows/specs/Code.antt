-- The rows of some code, which lead to instructions by number.
use Rattle.std.specs.Prelude.{◌≡◌, ℕ, ◌<◌, ◌==◌, List, length, map, All, Contains, Some, slice_get}
use Rattle.std.specs.List.{position_or_len}
use Rattle.cil_instruction.specs.declared.instruction.Instr.{Instr}
use Rattle.cil_rows.specs.declared.row.Row.{Row}
use Rattle.cil_rows.specs.Instruction.{row_of}
use Rattle.cil_rows.specs.Flow.{aims_of}

-- an instruction and its place in the code
abbrev pub Placed : Type 0
Placed = ℕ × Instr

-- the places where the instructions start
abbrev pub starts_of : List Placed → List ℕ
starts_of code = map (λ e. e.0) code

-- the number of the first instruction that starts at the place, counted from 0, and how many there are where none does
abbrev pub number_at : List ℕ → ℕ → ℕ
number_at starts place = position_or_len (λ start. start == place) starts

-- the instruction with the numbers of its targets in place of these
abbrev pub numbered : List ℕ → Instr → Instr
numbered starts i = record { op = i.op; arg = i.arg; targets = map (number_at starts) i.targets }

-- what each instruction does, in order
abbrev pub rows_of : List Placed → List Row
rows_of code = map (λ e. row_of (numbered (starts_of code) e.1)) code

-- at each target of each instruction one starts
abbrev pub AreAimed : List Placed → Type 0
AreAimed code = All (λ e. All (Contains (starts_of code)) e.1.targets) code

-- the number of a place where an instruction starts is that of one which starts there
abbrev pub NumbersArePlaces : Type 0
NumbersArePlaces =
    (starts : List ℕ) (place : ℕ) → Contains starts place → slice_get starts (number_at starts place) ≡ Some place

-- in code with such targets each aim is the number of an instruction
abbrev pub AimsAreInstructions : Type 0
AimsAreInstructions =
    (code : List Placed) → AreAimed code → All (λ row. All (λ to. to < length code) (aims_of row)) (rows_of code)
