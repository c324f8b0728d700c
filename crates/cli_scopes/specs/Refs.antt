-- The rows of TypeRef as they stand (ECMA-335 II.22.38).
use Rattle.std.specs.Prelude.{◌≡◌, ◌⊎◌, ℕ, ◌+◌, ◌-◌, ◌/◌, ◌%◌, ◌^◌, List, length, slice_get, Bool, nat_lt, nat_le, ◌==◌, ◌&&◌, cond, Option, Some, None}
use Rattle.dc_base.specs.declared.names.Token.{Token}
use Rattle.cli_metadata.specs.declared.tables.Table.{Table}
use Rattle.cli_metadata.specs.declared.tables.Table.TheVariants as tables
use Rattle.cli_metadata.specs.Metadata.{Contents, rows_of, row_of, coded_of, IsString}
use Rattle.cli_tables.specs.declared.types.TypeRefRow.{TypeRefRow}
use Rattle.cli_tables.specs.Types.{type_ref_of}
use Rattle.cli_scopes.specs.declared.refs.Scope.{Scope}
use Rattle.cli_scopes.specs.declared.refs.Scope.TheVariants.{References, Own, InRef, Nowhere}
use Rattle.cli_scopes.specs.declared.refs.TypeRef.{TypeRef}

-- the table has a row of this number; rows count from 1
abbrev pub is_row : Contents → Table → ℕ → Bool
is_row m table n = nat_lt 0 n && nat_le n (rows_of m table)

abbrev pub scope_by : Bool → Scope → Scope
scope_by there scope = cond there scope Nowhere

abbrev pub in_ref : ℕ → Scope
in_ref row = scope_by (nat_lt 0 row) (InRef (row - 1))

-- The scope that a token names: the module is the assembly itself, a row of AssemblyRef the references, and a row of TypeRef
-- the type round it. A module of another file, and row 0, are none.
abbrev pub scope_at : Contents → Token → Scope
scope_at m token =
    let row = token.0 % 2 ^ 24 in
    let table = token.0 / 2 ^ 24 in
    cond (table == 0x00) (scope_by (is_row m tables.Module row) Own)
    (cond (table == 0x01) (in_ref row)
    (cond (table == 0x23) (scope_by (is_row m tables.AssemblyRef row) References) Nowhere))

abbrev pub scope_named : Contents → Option Token → Scope
scope_named m None = Nowhere
scope_named m (Some token) = scope_at m token

abbrev pub scope_of_row : Contents → TypeRefRow → Scope
scope_of_row m row = scope_named m (coded_of row.scope.kind row.scope.cell)

-- the namespace and the name of a row are texts
abbrev pub AreTexts : Contents → TypeRefRow → List ℕ → List ℕ → Type 0
AreTexts m row space name = IsString m.strings row.namespace space × IsString m.strings row.name name

-- row n of TypeRef: its scope, its namespace and its name; where one of the two is no text it is nowhere
abbrev pub IsTypeRef : Contents → ℕ → TypeRef → Type 0
IsTypeRef m n ref =
    let row = type_ref_of (row_of m tables.TypeRef n) in
    (AreTexts m row ref.space.now ref.name.now × (ref.scope ≡ scope_of_row m row))
    ⊎ (((space name : List ℕ) → AreTexts m row space name → ⊥) × (ref.scope ≡ Nowhere))

-- all rows of TypeRef, in their order
pub record AreTypeRefs (m : Contents) (refs : List TypeRef) : Type 0 where
  pub long : length refs ≡ rows_of m tables.TypeRef
  pub each : (k : ℕ) (ref : TypeRef) → slice_get refs k ≡ Some ref → IsTypeRef m (k + 1) ref
