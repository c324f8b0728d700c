-- The rows of own types (ECMA-335 II.22.37).
use Rattle.std.specs.Prelude.{◌≡◌, ℕ, ◌+◌, ◌-◌, List, true, length, slice_get, Option, Some, None}
use Rattle.dc_base.specs.declared.names.TypeId.{TypeId}
use Rattle.dc_base.specs.declared.ty.Prim_.{Prim_}
use Rattle.class_rows.specs.declared.row.TypeRow.{TypeRow}
use Rattle.cli_metadata.specs.declared.tables.Table.TheVariants as tables
use Rattle.cli_metadata.specs.Metadata.{Contents, rows_of, row_of, coded_of}
use Rattle.cli_tables.specs.declared.types.TypeDefRow.{TypeDefRow}
use Rattle.cli_tables.specs.Types.{type_def_of}
use Rattle.cli_lists.specs.declared.column.ListColumn.{ListColumn}
use Rattle.cli_lists.specs.Lists.{IsListColumn}
use Rattle.cli_flags.specs.Flags.{is_set, type_mask, type_access}
use Rattle.cli_flags.specs.declared.bits.TypeFlag.TheVariants as type_flag
use Rattle.cli_names.specs.Texts.{IsTextAt}
use Rattle.cli_names.specs.Names.{own_types}
use Rattle.cli_types.specs.declared.types.Tokens.{Tokens}
use Rattle.cli_types.specs.Named.{own_type}
use Rattle.cli_kinds.specs.declared.system.System.{System}
use Rattle.cli_kinds.specs.Bases.{base_of}
use Rattle.cli_own.specs.Interfaces.{interfaces_of}
use Rattle.cli_kinds.specs.Underlying.{IsUnderlying}
use Rattle.cli_kinds.specs.Kinds.{kind_of}

abbrev pub type_def : Contents → ℕ → TypeDefRow
type_def m n = type_def_of (row_of m tables.TypeDef n)

-- the type of the row that stands round a row of TypeDef
abbrev pub outer_named : Tokens → Option (Option ℕ) → Option TypeId
outer_named tokens (Some (Some row)) = own_type tokens row
outer_named tokens _ = None

abbrev pub outer_of : Tokens → List (Option ℕ) → ℕ → Option TypeId
outer_of tokens outers n = outer_named tokens (slice_get outers (n - 1))

-- the row of the type of row n of TypeDef
pub record IsOwnTypeRow (m : Contents) (fields : ListColumn) (tokens : Tokens) (outers : List (Option ℕ)) (system : System) (n : ℕ) (row : TypeRow) : Type 0 where
  pub name : IsTextAt m (type_def m n).name row.name
  pub space : IsTextAt m (type_def m n).namespace row.space
  pub outer : row.outer ≡ outer_of tokens outers n
  pub base : row.base ≡ base_of tokens (coded_of (type_def m n).extends.kind (type_def m n).extends.cell)
  pub values : Prim_
  pub underlying : IsUnderlying m fields n values
  pub kind : row.kind ≡ kind_of system (type_def m n).flags row.base values
  pub access : row.access ≡ type_access (type_def m n).flags
  pub bases : row.bases ≡ interfaces_of m tokens n
  pub is_abstract : row.is_abstract ≡ is_set (type_mask type_flag.Abstract) (type_def m n).flags
  pub is_sealed : row.is_sealed ≡ is_set (type_mask type_flag.Sealed) (type_def m n).flags
  pub own : row.own ≡ true

-- for each row of TypeDef but the first the row of its type
pub record AreOwnTypeRows (m : Contents) (fields : ListColumn) (tokens : Tokens) (outers : List (Option ℕ)) (system : System) (rows : List TypeRow) : Type 0 where
  pub long : length rows ≡ own_types m
  pub each : (k : ℕ) (row : TypeRow) → slice_get rows k ≡ Some row → IsOwnTypeRow m fields tokens outers system (k + 2) row

-- what is asked of the list of fields
pub record AreFields (m : Contents) (fields : ListColumn) : Type 0 where
  pub column : IsListColumn fields
  pub rows : fields.rows ≡ rows_of m tables.Field
  pub cells : length fields.cells ≡ rows_of m tables.TypeDef
