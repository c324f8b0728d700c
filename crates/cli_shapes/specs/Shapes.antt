-- Inner facts: the conditions as they are asked, each of all own types or of all own members.
use Rattle.std.specs.Prelude.{◌≡◌, ℕ, ◌-◌, length}
use Rattle.dc_base.specs.declared.names.Token.{Token}
use Rattle.cli_conditions.specs.declared.condition.Condition.{Condition}
use Rattle.cli_conditions.specs.declared.condition.Condition.TheVariants as conditions
use Rattle.cli_conditions.specs.declared.unmet.Unmet.{Unmet}
use Rattle.cli_shapes.specs.declared.own.Own.{Own}
use Rattle.cli_shapes.specs.declared.shape.Shape.{Shape}
use Rattle.cli_shapes.specs.declared.shape.Shape.TheVariants.{ValueType, RefShape, StaticShape, NoConstructor, InterfaceShape, Finalizer, DelegateShape, EnumShape, ArrayDepth}
use Rattle.cli_shapes.specs.Own.{IsTold, type_token}
use Rattle.cli_shapes.specs.Profile.{TypeFails, MemberFails}

abbrev pub condition_of : Shape → Condition
condition_of ValueType = conditions.ValueType
condition_of RefShape = conditions.RefShape
condition_of StaticShape = conditions.StaticShape
condition_of NoConstructor = conditions.NoConstructor
condition_of InterfaceShape = conditions.InterfaceShape
condition_of Finalizer = conditions.Finalizer
condition_of DelegateShape = conditions.DelegateShape
condition_of EnumShape = conditions.EnumShape
condition_of ArrayDepth = conditions.ArrayDepth

-- it is asked of all own members, or else of all own types
abbrev pub asked : Shape → Own → ℕ
asked RefShape s = length s.told.now
asked InterfaceShape s = length s.told.now
asked Finalizer s = length s.told.now
asked ArrayDepth s = length s.told.now
asked shape s = length s.table.now.types - s.first_type.0

-- own type, or own member, n fails it
abbrev pub FailsAt : Shape → Own → ℕ → Type 0
FailsAt RefShape s n = MemberFails s conditions.RefShape n
FailsAt InterfaceShape s n = MemberFails s conditions.InterfaceShape n
FailsAt Finalizer s n = MemberFails s conditions.Finalizer n
FailsAt ArrayDepth s n = MemberFails s conditions.ArrayDepth n
FailsAt shape s n = TypeFails s (condition_of shape) n

abbrev pub Meets : Shape → Own → ℕ → Type 0
Meets shape s n = FailsAt shape s n → ⊥

-- the token of own type, or own member, n
abbrev pub IsTokenOf : Shape → Own → ℕ → Token → Type 0
IsTokenOf RefShape s n token = IsTold s n (λ told. token ≡ told.token)
IsTokenOf InterfaceShape s n token = IsTold s n (λ told. token ≡ told.token)
IsTokenOf Finalizer s n token = IsTold s n (λ told. token ≡ told.token)
IsTokenOf ArrayDepth s n token = IsTold s n (λ told. token ≡ told.token)
IsTokenOf shape s n token = token ≡ type_token n

-- this says that own type, or own member, n fails it
pub record IsUnmet (shape : Shape) (s : Own) (n : ℕ) (unmet : Unmet) : Type 0 where
  pub fails : FailsAt shape s n
  pub condition : unmet.condition ≡ condition_of shape
  pub token : IsTokenOf shape s n unmet.token
