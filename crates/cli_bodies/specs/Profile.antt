-- The profile as far as the places of one method decide it: which failure comes first.
use Rattle.std.specs.Prelude.{◌≡◌, ◌⊎◌, ℕ, ◌<◌, Some, Ok, Err}
use Rattle.dc_causes.specs.Step.{Step}
use Rattle.cli_conditions.specs.declared.condition.Condition.{Condition}
use Rattle.cli_conditions.specs.declared.condition.Condition.TheVariants as conditions
use Rattle.cli_conditions.specs.Conditions.{number_of as place_of}
use Rattle.cli_bodies.specs.declared.method.Method.{Method}
use Rattle.cli_bodies.specs.declared.method.Failure.{Failure}
use Rattle.cli_bodies.specs.Catches.{IsOtherClass, IsCovered}
use Rattle.cli_bodies.specs.Unboxes.{IsUnread}

-- The place at this offset fails the condition: a catch at its handler, an `unbox` where it stands. Where a head fails is
-- told by who reads it.
abbrev pub Fails : Method → Condition → ℕ → Type 0
Fails s conditions.CatchClass offset = (k : ℕ) × IsOtherClass s k offset
Fails s conditions.CatchOrder offset = (k : ℕ) × IsCovered s k offset
Fails s conditions.Head offset = s.head ≡ Some offset
Fails s conditions.Unbox offset = (k : ℕ) × IsUnread s k offset
Fails s _ offset = ⊥

abbrev pub IsFailure : Method → Failure → Type 0
IsFailure s f = Fails s f.condition f.offset

-- one failure comes before another: by its offset, then by the condition's place
abbrev pub ComesBefore : Failure → Failure → Type 0
ComesBefore f g = (f.offset < g.offset) ⊎ ((f.offset ≡ g.offset) × (place_of f.condition < place_of g.condition))

-- no failure comes before this one
pub record IsFirst (s : Method) (f : Failure) : Type 0 where
  pub fails : IsFailure s f
  pub first : (g : Failure) → IsFailure s g → ComesBefore g f → ⊥

-- the body meets the conditions, or the fault is the first failure
abbrev pub BodyInProfile : Method → Step (Unit {0}) Failure
BodyInProfile s (Ok a) = (f : Failure) → IsFailure s f → ⊥
BodyInProfile s (Err f) = IsFirst s f
