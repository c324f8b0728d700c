-- Meanings, and what they are put together from. No tree stands here.
use Rattle.std.specs.Prelude.{ℕ, zero, suc, Bool, false, if◌then◌else◌, ◌==◌, List, [], ◌∷◌, length, nat_lt, slice_get, slice_set}
use Rattle.std.specs.Prelude.{Option, Some, None}
use Rattle.cs_meaning.specs.declared.state.Value.{Value}
use Rattle.cs_meaning.specs.declared.state.State.{State}
use Rattle.cs_meaning.specs.declared.state.End.{End}
use Rattle.cs_meaning.specs.declared.state.End.TheVariants.{Falls, Breaks, Continues, Goes, Returns, Throws, Asks, Wrong}

-- what an expression comes to: a value, or an end of the statement that it stands in; and the state then
pub data Valued : Type 0 where
  gives : Value → State → Valued
  stops : End → State → Valued

-- what a run comes to: the fuel was too little, or an end, the state then and the fuel that is left
pub data Ran : Type 0 where
  spent : Ran
  done : End → State → ℕ → Ran

-- what a statement does with some fuel in a state
abbrev pub Meaning : Type 0
Meaning = ℕ → State → Ran

-- the end of a run that had fuel enough
abbrev pub end_of : Ran → Option End
end_of spent = None
end_of (done e σ n) = Some e

-- an operand's value goes on into f
abbrev pub on_value : Valued → (Value → State → Valued) → Valued
on_value (gives x σ) f = f x σ
on_value (stops e σ) f = stops e σ

-- a statement goes on with the value of its expression
abbrev pub with_value : Valued → ℕ → (Value → State → Ran) → Ran
with_value (gives x σ) n f = f x σ
with_value (stops e σ) n f = done e σ n

-- a value; where there is none, nothing that a typed body does
abbrev pub valued : Option Value → State → Valued
valued (Some x) σ = gives x σ
valued None σ = stops Wrong σ

-- the value of a variable, which has none while it is unassigned (ECMA-334, 9.4)
abbrev pub value_in : Option (Option Value) → Option Value
value_in (Some value) = value
value_in None = None

abbrev pub variable : ℕ → State → Option Value
variable var σ = value_in (slice_get σ.vars var)

abbrev pub read : ℕ → State → Valued
read var σ = valued (variable var σ) σ

-- the state in which a variable has a value
abbrev pub assigned : ℕ → Value → State → State
assigned var x σ = record σ { vars = slice_set σ.vars var (Some x) }

-- sets a variable, and falls through; one that is not there is wrong
abbrev pub store : ℕ → Value → State → ℕ → Ran
store var x σ n = if nat_lt var (length σ.vars) then done Falls (assigned var x σ) n else done Wrong σ n

-- a statement begins, which takes one unit of fuel
abbrev pub begun : Meaning → Meaning
begun m zero σ = spent
begun m (suc n) σ = m n σ

-- nothing that a typed body does
abbrev pub wrong : Meaning
wrong n σ = done Wrong σ n

-- a statement of a list: the label that it is, if it is one, and what it does
pub record Part : Type 0 where
  pub label : Option ℕ
  pub run : Meaning

-- what comes next, where a run ended at its end point (ECMA-334, 13.3)
abbrev pub after : Ran → Meaning → Ran
after spent m = spent
after (done Falls σ n) m = m n σ
after (done Breaks σ n) m = done Breaks σ n
after (done Continues σ n) m = done Continues σ n
after (done (Goes l) σ n) m = done (Goes l) σ n
after (done (Returns v) σ n) m = done (Returns v) σ n
after (done (Throws v) σ n) m = done (Throws v) σ n
after (done Asks σ n) m = done Asks σ n
after (done Wrong σ n) m = done Wrong σ n

-- statements one after another
abbrev pub runs : List Part → Meaning
runs [] n σ = done Falls σ n
runs (p ∷ ps) n σ = after (p.run n σ) (runs ps)

abbrev pub is_label : ℕ → Option ℕ → Bool
is_label l None = false
is_label l (Some k) = k == l

-- the statements from a label on, where the list has it (ECMA-334, 13.5)
abbrev pub entry : List Part → ℕ → Option Meaning
entry [] l = None
entry (p ∷ ps) l = if is_label l p.label then Some (runs (p ∷ ps)) else entry ps l

-- a jump to a label: from there on, and then as k says; or out
abbrev pub landed : Option Meaning → ℕ → State → ℕ → (Ran → Ran) → Ran
landed None l σ n k = done (Goes l) σ n
landed (Some m) l σ n k = k (m n σ)

-- a run that ended in a jump to a label of `at` goes on there
abbrev pub jump : (ℕ → Option Meaning) → Ran → (Ran → Ran) → Ran
jump at spent k = spent
jump at (done Falls σ n) k = done Falls σ n
jump at (done Breaks σ n) k = done Breaks σ n
jump at (done Continues σ n) k = done Continues σ n
jump at (done (Goes l) σ n) k = landed (at l) l σ n k
jump at (done (Returns v) σ n) k = done (Returns v) σ n
jump at (done (Throws v) σ n) k = done (Throws v) σ n
jump at (done Asks σ n) k = done Asks σ n
jump at (done Wrong σ n) k = done Wrong σ n

-- at most so many jumps, each of which takes a unit of fuel
abbrev pub again : ℕ → (ℕ → Option Meaning) → Ran → Ran
again zero at r = jump at r (λ _. spent)
again (suc k) at r = jump at r (again k at)

-- a block goes on at its own labels, and hands every other jump out (ECMA-334, 13.10.4)
abbrev pub block : List Part → Meaning
block ps n σ = again n (entry ps) (runs ps n σ)
