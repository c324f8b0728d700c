-- One step of the machine of a lone body (ECMA-335 III.3): an instruction is known by its row, and a row is a function of
-- the stack.
use Rattle.std.specs.Prelude.{ℕ, ◌+◌, ◌^◌, ℤ, ◌+ℤ◌, ◌-ℤ◌, ◌*ℤ◌, pos, negsuc, List, [], ◌∷◌, Option, None, Some, nat_lt, ◌==◌, if◌then◌else◌, slice_get, find, option_map}
use Rattle.std.specs.Int.{int_wrap, w32}
use Rattle.cil_lone.specs.declared.row.Row.{Row}
use Rattle.cil_lone.specs.declared.row.Row.TheVariants.{Load, Binary, Return, Beyond}
use Rattle.cil_lone.specs.declared.row.Source.{Source}
use Rattle.cil_lone.specs.declared.row.Source.TheVariants.{Argument, Number, Operand}
use Rattle.cil_lone.specs.declared.row.Two.{Two}
use Rattle.cil_lone.specs.declared.row.Two.TheVariants.{Add, Sub, Mul}
use Rattle.cil_instruction.specs.declared.instruction.Simple.{Simple}
use Rattle.cil_lone.specs.Row.{size_of, row_of}
use Rattle.cil_lone.specs.Cut.{Placed}
use Rattle.cil_meaning.specs.declared.machine.LoneState.{LoneState}
use Rattle.cil_meaning.specs.declared.machine.LoneStepped.{LoneStepped}
use Rattle.cil_meaning.specs.declared.machine.LoneStepped.TheVariants.{Next, Done, Stuck}

-- a number, where it is one of the 32 bits that a slot has
abbrev pub int_of : ℤ → Option ℤ
int_of (pos n) = if nat_lt n (2 ^ 31) then Some (pos n) else None
int_of (negsuc n) = if nat_lt n (2 ^ 31) then Some (negsuc n) else None

-- what a load pushes: an argument, the number of the mnemonic, or the operand
abbrev pub loaded_of : Source → ℤ → List ℤ → Option ℤ
loaded_of (Argument k) arg args = slice_get args k
loaded_of (Number n) arg args = Some n
loaded_of Operand arg args = int_of arg

-- the low 32 bits of the sum, the difference or the product, as a signed number
abbrev pub result_of : Two → ℤ → ℤ → ℤ
result_of Add x y = int_wrap w32 (x +ℤ y)
result_of Sub x y = int_wrap w32 (x -ℤ y)
result_of Mul x y = int_wrap w32 (x *ℤ y)

-- goes on behind the instruction with this stack; there is no place from 2^32 on
abbrev pub onward_of : Simple → LoneState → List ℤ → LoneStepped
onward_of i s stack =
    if nat_lt (s.at + size_of i.op) (2 ^ 32) then Next (record s { at = s.at + size_of i.op; stack = stack }) else Stuck

-- pushes a value, where there is one
abbrev pub load_of : Option ℤ → Simple → LoneState → LoneStepped
load_of (Some v) i s = onward_of i s (v ∷ s.stack)
load_of None i s = Stuck

-- an operator takes the upper slot as its right operand and the one below it as its left
abbrev pub binary_of : (ℤ → ℤ → ℤ) → Simple → LoneState → List ℤ → LoneStepped
binary_of f i s (y ∷ x ∷ below) = onward_of i s (f x y ∷ below)
binary_of f i s (y ∷ []) = Stuck
binary_of f i s [] = Stuck

-- a ret takes the one slot that there is
abbrev pub return_of : List ℤ → LoneStepped
return_of (v ∷ []) = Done v
return_of (v ∷ w ∷ below) = Stuck
return_of [] = Stuck

-- what an instruction does, by its row: one that a lone body hasn't is no step
abbrev pub act_by : Row → Simple → LoneState → LoneStepped
act_by (Load source) i s = load_of (loaded_of source i.arg s.args) i s
act_by (Binary two) i s = binary_of (result_of two) i s s.stack
act_by Return i s = return_of s.stack
act_by Beyond i s = Stuck

abbrev pub act_of : Simple → LoneState → LoneStepped
act_of i s = act_by (row_of i.op) i s

-- the instruction that stands at a place
abbrev pub standing_at : List Placed → ℕ → Option Simple
standing_at code place = option_map (λ e. e.1) (find (λ e. e.0 == place) code)

-- the step of the instruction, where there is one
abbrev pub step_of : Option Simple → LoneState → LoneStepped
step_of None s = Stuck
step_of (Some i) s = act_of i s

-- one step
abbrev pub step : List Placed → LoneState → LoneStepped
step code s = step_of (standing_at code s.at) s
