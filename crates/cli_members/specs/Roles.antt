-- Which methods are accessors of properties (ECMA-335 II.22.28, II.23.1.12).
use Rattle.std.specs.Prelude.{◌≡◌, ◌⊎◌, ℕ, ◌+◌, ◌/◌, ◌^◌, ◌≤◌, true, ◌||◌, cond, List, length, slice_get, Some}
use Rattle.dc_base.specs.declared.names.Token.{Token}
use Rattle.dc_causes.specs.First.{IsLeast}
use Rattle.cli_metadata.specs.declared.tables.Table.TheVariants as tables
use Rattle.cli_metadata.specs.Metadata.{Contents, rows_of, row_of, coded_of}
use Rattle.cli_tables.specs.declared.properties.MethodSemanticsRow.{MethodSemanticsRow}
use Rattle.cli_tables.specs.Properties.{method_semantics_of}
use Rattle.cli_flags.specs.Flags.{is_set}
use Rattle.cli_members.specs.declared.roles.Role.{Role}
use Rattle.cli_members.specs.declared.roles.Role.TheVariants as role

abbrev pub semantics_at : Contents → ℕ → MethodSemanticsRow
semantics_at m r = method_semantics_of (row_of m tables.MethodSemantics r)

-- row r of MethodSemantics makes row k of MethodDef a getter (0x2) or a setter (0x1) of a property, a row of table 0x17
pub record IsAccessor (m : Contents) (k r : ℕ) : Type 0 where
  pub low : 1 ≤ r
  pub high : r ≤ rows_of m tables.MethodSemantics
  pub method : (semantics_at m r).method ≡ k
  pub token : Token
  pub named : coded_of (semantics_at m r).association.kind (semantics_at m r).association.cell ≡ Some token
  pub property : token.0 / 2 ^ 24 ≡ 0x17
  pub reads_or_writes : (is_set 0x2 (semantics_at m r).semantics || is_set 0x1 (semantics_at m r).semantics) ≡ true

abbrev pub role_by : ℕ → Role
role_by semantics = cond (is_set 0x2 semantics) role.Getter role.Setter

-- a method is what the first such row makes it
abbrev pub IsRole : Contents → ℕ → Role → Type 0
IsRole m k what =
    ((r : ℕ) × IsLeast (IsAccessor m k) r × (what ≡ role_by (semantics_at m r).semantics))
    ⊎ (((r : ℕ) → IsAccessor m k r → ⊥) × (what ≡ role.None))

-- for each row of MethodDef what it is to a property
pub record AreRoles (m : Contents) (roles : List Role) : Type 0 where
  pub long : length roles ≡ rows_of m tables.MethodDef
  pub each : (k : ℕ) (what : Role) → slice_get roles k ≡ Some what → IsRole m (k + 1) what
