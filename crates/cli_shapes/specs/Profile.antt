-- The profile as far as the rows of own types and own members decide it: which failure comes first.
use Rattle.std.specs.Prelude.{◌≡◌, ◌⊎◌, ℕ, ◌<◌, Ok, Err}
use Rattle.dc_causes.specs.Step.{Step}
use Rattle.dc_base.specs.declared.names.Token.{Token}
use Rattle.cli_conditions.specs.declared.condition.Condition.{Condition}
use Rattle.cli_conditions.specs.declared.condition.Condition.TheVariants as conditions
use Rattle.cli_conditions.specs.declared.unmet.Unmet.{Unmet}
use Rattle.cli_conditions.specs.Conditions.{number_of as place_of}
use Rattle.cli_shapes.specs.declared.own.Own.{Own}
use Rattle.cli_shapes.specs.Own.{IsTold, type_token}
use Rattle.cli_shapes.specs.Types.{IsStruct, IsStaticWithInstance, IsWithoutConstructor, IsOtherDelegate, IsOtherEnum}
use Rattle.cli_shapes.specs.Members.{IsLent, IsFullInInterface, IsFinalizer, IsTooDeep}

-- own type t fails the condition
abbrev pub TypeFails : Own → Condition → ℕ → Type 0
TypeFails s conditions.ValueType t = IsStruct s t
TypeFails s conditions.StaticShape t = IsStaticWithInstance s t
TypeFails s conditions.NoConstructor t = IsWithoutConstructor s t
TypeFails s conditions.DelegateShape t = IsOtherDelegate s t
TypeFails s conditions.EnumShape t = IsOtherEnum s t
TypeFails s _ t = ⊥

-- own member k fails the condition
abbrev pub MemberFails : Own → Condition → ℕ → Type 0
MemberFails s conditions.RefShape k = IsLent s k
MemberFails s conditions.InterfaceShape k = IsFullInInterface s k
MemberFails s conditions.Finalizer k = IsFinalizer s k
MemberFails s conditions.ArrayDepth k = IsTooDeep s k
MemberFails s _ k = ⊥

-- the type, or the member, of this token fails the condition
abbrev pub Fails : Own → Condition → Token → Type 0
Fails s c token =
    ((t : ℕ) × TypeFails s c t × (token ≡ type_token t))
    ⊎ ((k : ℕ) × MemberFails s c k × IsTold s k (λ told. token ≡ told.token))

abbrev pub IsFailure : Own → Unmet → Type 0
IsFailure s f = Fails s f.condition f.token

-- one failure comes before another: by the condition's place, then by token
abbrev pub ComesBefore : Unmet → Unmet → Type 0
ComesBefore f g =
    (place_of f.condition < place_of g.condition)
    ⊎ ((place_of f.condition ≡ place_of g.condition) × (f.token.0 < g.token.0))

-- no failure comes before this one
pub record IsFirst (s : Own) (f : Unmet) : Type 0 where
  pub fails : IsFailure s f
  pub first : (g : Unmet) → IsFailure s g → ComesBefore g f → ⊥

-- own types and members meet the conditions, or the fault is the first failure
abbrev pub ShapesInProfile : Own → Step (Unit {0}) Unmet
ShapesInProfile s (Ok a) = (f : Unmet) → IsFailure s f → ⊥
ShapesInProfile s (Err f) = IsFirst s f
