-- The names of types (ECMA-335 II.22.37).
use Rattle.std.specs.Prelude.{◌≡◌, ℕ, ◌+◌, ◌-◌, List, length, slice_get, Option, Some, None, nat_lt, cond}
use Rattle.dc_base.specs.declared.names.TypeId.{TypeId}
use Rattle.class_rows.specs.declared.row.TypeRow.{TypeRow}
use Rattle.cli_metadata.specs.declared.tables.Table.TheVariants as tables
use Rattle.cli_metadata.specs.Metadata.{Contents, rows_of, row_of}
use Rattle.cli_tables.specs.Types.{type_def_of}
use Rattle.cli_scopes.specs.declared.name.Within.{Within}
use Rattle.cli_scopes.specs.declared.name.Within.TheVariants.{References, Own, InType}
use Rattle.cli_scopes.specs.declared.name.TypeName.{TypeName}
use Rattle.cli_names.specs.Texts.{IsTextAt}

-- ---- types of the references

abbrev pub within_of : Option TypeId → Within
within_of (Some outer) = InType outer
within_of None = References

-- what a type of the references is known by
pub record IsReferenceName (row : TypeRow) (name : TypeName) : Type 0 where
  pub within : name.within ≡ within_of row.outer
  pub space : name.space.now ≡ row.space
  pub called : name.name.now ≡ row.name

-- for each type of the references its name
pub record AreReferenceNames (types : List TypeRow) (names : List TypeName) : Type 0 where
  pub long : length names ≡ length types
  pub each : (t : ℕ) (row : TypeRow) (name : TypeName) → slice_get types t ≡ Some row → slice_get names t ≡ Some name → IsReferenceName row name

-- ---- own types

-- all rows of TypeDef but the first, which stands for the module
abbrev pub own_types : Contents → ℕ
own_types m = rows_of m tables.TypeDef - 1

-- the row round the type of row k + 2
abbrev pub or_none : Option (Option ℕ) → Option ℕ
or_none (Some outer) = outer
or_none None = None

abbrev pub outer_at : List (Option ℕ) → ℕ → Option ℕ
outer_at outers k = or_none (slice_get outers (k + 1))

-- where a type stands that a row of TypeDef is round; the module, and a row that isn't there, are no type
abbrev pub within_row : ℕ → ℕ → ℕ → Within
within_row count own_from row =
    cond (nat_lt row 2) Own (cond (nat_lt (row - 2) count) (InType (record { 0 = own_from + (row - 2) })) Own)

abbrev pub within_own : ℕ → ℕ → Option ℕ → Within
within_own count own_from (Some row) = within_row count own_from row
within_own count own_from None = Own

-- what the type of row k + 2 is known by
pub record IsOwnName (m : Contents) (outers : List (Option ℕ)) (own_from k : ℕ) (name : TypeName) : Type 0 where
  pub within : name.within ≡ within_own (own_types m) own_from (outer_at outers k)
  pub space : IsTextAt m (type_def_of (row_of m tables.TypeDef (k + 2))).namespace name.space.now
  pub called : IsTextAt m (type_def_of (row_of m tables.TypeDef (k + 2))).name name.name.now

-- ---- all types

-- the types of the references, and behind them those of the assembly itself
pub record AreTypeNames (types : List TypeRow) (m : Contents) (outers : List (Option ℕ)) (names : List TypeName) : Type 0 where
  pub long : length names ≡ length types + own_types m
  pub of_references : (t : ℕ) (row : TypeRow) (name : TypeName) → slice_get types t ≡ Some row → slice_get names t ≡ Some name → IsReferenceName row name
  pub of_own : (k : ℕ) (name : TypeName) → slice_get names (length types + k) ≡ Some name → IsOwnName m outers (length types) k name
