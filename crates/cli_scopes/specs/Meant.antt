-- The types that rows of TypeRef mean (ECMA-335 II.22.38).
use Rattle.std.specs.Prelude.{◌≡◌, ℕ, List, length, slice_get, Option, Some, None}
use Rattle.dc_base.specs.declared.names.TypeId.{TypeId}
use Rattle.cli_scopes.specs.declared.name.Within.{Within}
use Rattle.cli_scopes.specs.declared.name.Within.TheVariants.{References as InReferences, Own as InOwn, InType}
use Rattle.cli_scopes.specs.declared.name.TypeName.{TypeName}
use Rattle.cli_scopes.specs.declared.refs.Scope.{Scope}
use Rattle.cli_scopes.specs.declared.refs.Scope.TheVariants.{References, Own, InRef, Nowhere}
use Rattle.cli_scopes.specs.declared.refs.TypeRef.{TypeRef}
use Rattle.cli_scopes.specs.Names.{first_of}

-- the first of some types with the namespace and the name of the row that stands there
abbrev pub IsFirstIn : List TypeName → Within → TypeRef → ℕ → Type 0
IsFirstIn names within row t = first_of names (record { within = within; space = row.space; name = row.name }) ≡ Some t

-- a scope at the top
abbrev pub IsTop : Scope → Within → Type 0
IsTop References within = within ≡ InReferences
IsTop Own within = within ≡ InOwn
IsTop (InRef above) within = ⊥
IsTop Nowhere within = ⊥

-- The row of this number, from 0 on, means a type: the first one with its names at the top of its scope, or in the type that
-- the row means which it stands in. So a row that stands in itself, over however many others, means none.
pub data Means (names : List TypeName) (refs : List TypeRef) : ℕ → ℕ → Type 0 where
  at_top : (r t : ℕ) (row : TypeRef) (within : Within) → slice_get refs r ≡ Some row → IsTop row.scope within → IsFirstIn names within row t → Means names refs r t
  inside : (r s o t : ℕ) (row : TypeRef) → slice_get refs r ≡ Some row → row.scope ≡ InRef s → Means names refs s o → IsFirstIn names (InType (record { 0 = o })) row t → Means names refs r t

abbrev pub IsMeant : List TypeName → List TypeRef → ℕ → Option TypeId → Type 0
IsMeant names refs r (Some t) = Means names refs r t.0
IsMeant names refs r None = (t : ℕ) → Means names refs r t → ⊥

-- for each row the type that it means, or none
pub record AreMeant (names : List TypeName) (refs : List TypeRef) (types : List (Option TypeId)) : Type 0 where
  pub long : length types ≡ length refs
  pub each : (r : ℕ) (found : Option TypeId) → slice_get types r ≡ Some found → IsMeant names refs r found
