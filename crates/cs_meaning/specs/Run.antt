-- What the code that runs a body hands out, beside the meaning.
use Rattle.std.specs.Prelude.{◌≡◌, ℕ, Option, Some, None, Result, Ok, Err, ⊤, ℤ}
use Rattle.dc_base.specs.declared.failure.NoMemory.{NoMemory}
use Rattle.cs_meaning.specs.declared.state.Value.{Value}
use Rattle.cs_meaning.specs.declared.state.State.{State}
use Rattle.cs_meaning.specs.declared.state.End.{End}
use Rattle.cs_meaning.specs.declared.state.End.TheVariants.{Returns}
use Rattle.cs_meaning.specs.declared.state.Value.TheVariants.{Int}
use Rattle.cs_meaning.specs.Ran.{Valued, gives, stops, Ran, spent, done}

-- an expression that comes to `v` was evaluated to this, and left this state
abbrev pub ComesTo : Valued → Result (Result Value End) NoMemory → State → Type 0
ComesTo v (Ok (Ok x)) σ = v ≡ gives x σ
ComesTo v (Ok (Err e)) σ = v ≡ stops e σ
ComesTo v (Err _) σ = ⊤

-- a run that comes to `r` ended so, or was spent, and left this state and fuel
abbrev pub EndsAs : Ran → Result (Option End) NoMemory → State → ℕ → Type 0
EndsAs r (Ok (Some e)) σ n = r ≡ done e σ n
EndsAs r (Ok None) σ n = r ≡ spent
EndsAs r (Err _) σ n = ⊤

-- the int that a run returned
abbrev pub returned_int : Option End → Option ℤ
returned_int (Some (Returns (Some (Int v)))) = Some v
returned_int _ = None
