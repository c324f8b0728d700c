-- What a lone body means: the machine's steps from its first instruction to a ret.
use Rattle.std.specs.Prelude.{◌≡◌, ℕ, zero, suc, ℤ, List, []}
use Rattle.cil_lone.specs.Cut.{Placed}
use Rattle.cil_meaning.specs.declared.machine.LoneState.{LoneState}
use Rattle.cil_meaning.specs.declared.machine.LoneStepped.{LoneStepped}
use Rattle.cil_meaning.specs.declared.machine.LoneStepped.TheVariants.{Next, Done, Stuck}
use Rattle.cil_meaning.specs.Step.{step}

-- goes on from the next state
abbrev pub and_then : LoneStepped → (LoneState → LoneStepped) → LoneStepped
and_then (Next s) go = go s
and_then (Done v) go = Done v
and_then Stuck go = Stuck

-- at most n steps
abbrev pub steps : List Placed → ℕ → LoneState → LoneStepped
steps code zero s = Next s
steps code (suc n) s = and_then (step code s) (steps code n)

-- before the first instruction, which stands behind the header's one byte: the stack is empty
abbrev pub start_of : List ℤ → LoneState
start_of args = record { at = 1; stack = []; args = args }

-- the code returns this number for these arguments
abbrev pub CilReturns : List Placed → List ℤ → ℤ → Type 0
CilReturns code args v = (n : ℕ) × (steps code n (start_of args) ≡ Done v)
