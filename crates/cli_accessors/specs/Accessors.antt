-- The accessors of properties (ECMA-335 II.22.28, II.22.34, II.23.1.12).
use Rattle.std.specs.Prelude.{◌≡◌, ℕ, ◌+◌, ◌/◌, ◌%◌, ◌^◌, ◌≤◌, ◌==◌, ◌||◌, not, Bool, List, length, slice_get, cond, Option, Some, None}
use Rattle.dc_base.specs.declared.names.Token.{Token}
use Rattle.dc_causes.specs.First.{IsLeast}
use Rattle.cli_metadata.specs.declared.tables.Table.TheVariants as tables
use Rattle.cli_metadata.specs.Metadata.{Contents, rows_of, row_of, coded_of}
use Rattle.cli_tables.specs.declared.properties.MethodSemanticsRow.{MethodSemanticsRow}
use Rattle.cli_tables.specs.Properties.{method_semantics_of}
use Rattle.cli_flags.specs.Flags.{is_set}
use Rattle.cli_accessors.specs.declared.parts.Part.{Part}
use Rattle.cli_accessors.specs.declared.parts.Part.TheVariants as part

abbrev pub semantics_at : Contents → ℕ → MethodSemanticsRow
semantics_at m r = method_semantics_of (row_of m tables.MethodSemantics r)

-- a getter bears the flag 2, a setter the flag 1, and any other method neither
abbrev pub is_part : Part → ℕ → Bool
is_part part.Getter semantics = is_set 0x2 semantics
is_part part.Setter semantics = is_set 0x1 semantics
is_part part.Other semantics = not (is_set 0x2 semantics || is_set 0x1 semantics)

-- the row of Property that a token names
abbrev pub property_named : Option Token → Option ℕ
property_named None = None
property_named (Some token) = cond (token.0 / 2 ^ 24 == 0x17) (Some (token.0 % 2 ^ 24)) None

-- the property of which a row of MethodSemantics makes its method such a part
abbrev pub property_of : Part → MethodSemanticsRow → Option ℕ
property_of what row = cond (is_part what row.semantics) (property_named (coded_of row.association.kind row.association.cell)) None

-- row r of MethodSemantics makes its method such a part of row p of Property
pub record IsAccessor (m : Contents) (what : Part) (p r : ℕ) : Type 0 where
  pub low : 1 ≤ r
  pub high : r ≤ rows_of m tables.MethodSemantics
  pub of : property_of what (semantics_at m r) ≡ Some p

-- the row of MethodDef that the first such row names
abbrev pub IsAccessorOf : Contents → Part → ℕ → Option ℕ → Type 0
IsAccessorOf m what p (Some method) = (r : ℕ) × IsLeast (IsAccessor m what p) r × (method ≡ (semantics_at m r).method)
IsAccessorOf m what p None = (r : ℕ) → IsAccessor m what p r → ⊥

-- for each row of Property such a part of it
pub record AreAccessors (m : Contents) (what : Part) (found : List (Option ℕ)) : Type 0 where
  pub long : length found ≡ rows_of m tables.Property
  pub each : (k : ℕ) (method : Option ℕ) → slice_get found k ≡ Some method → IsAccessorOf m what (k + 1) method
