-- Which interfaces a type names (ECMA-335 II.22.23).
use Rattle.std.specs.Prelude.{◌≡◌, ℕ, zero, suc, ◌+◌, ◌==◌, List, [], ◌∷◌, ◌++◌, length, slice_get, cond, Option, Some, None}
use Rattle.dc_base.specs.declared.names.Token.{Token}
use Rattle.dc_base.specs.declared.names.TypeId.{TypeId}
use Rattle.cli_metadata.specs.declared.tables.Table.TheVariants as tables
use Rattle.cli_metadata.specs.Metadata.{Contents, rows_of, row_of, coded_of}
use Rattle.cli_tables.specs.declared.types.InterfaceImplRow.{InterfaceImplRow}
use Rattle.cli_tables.specs.Types.{interface_impl_of}
use Rattle.cli_types.specs.declared.types.Tokens.{Tokens}
use Rattle.cli_types.specs.Named.{type_named}
use Rattle.cli_kinds.specs.Bases.{nothing, or_nothing}

abbrev pub interface_named : Tokens → Option Token → TypeId
interface_named tokens (Some token) = or_nothing (type_named tokens token)
interface_named tokens None = nothing

abbrev pub interface_of : Tokens → InterfaceImplRow → TypeId
interface_of tokens row = interface_named tokens (coded_of row.interface.kind row.interface.cell)

-- row r of InterfaceImpl
abbrev pub implemented : Contents → ℕ → InterfaceImplRow
implemented m r = interface_impl_of (row_of m tables.InterfaceImpl r)

-- the interfaces that row n of TypeDef names, by the first rows of InterfaceImpl
abbrev pub named_by : Contents → Tokens → ℕ → ℕ → List TypeId
named_by m tokens n zero = []
named_by m tokens n (suc r) =
    named_by m tokens n r ++ cond ((implemented m (suc r)).class == n) (interface_of tokens (implemented m (suc r)) ∷ []) []

-- and by all of them, in their order
abbrev pub interfaces_of : Contents → Tokens → ℕ → List TypeId
interfaces_of m tokens n = named_by m tokens n (rows_of m tables.InterfaceImpl)

-- for each row of TypeDef the interfaces that it names
pub record AreInterfaces (m : Contents) (tokens : Tokens) (lists : List (List TypeId)) : Type 0 where
  pub long : length lists ≡ rows_of m tables.TypeDef
  pub each : (k : ℕ) (named : List TypeId) → slice_get lists k ≡ Some named → named ≡ interfaces_of m tokens (k + 1)

-- ---- inner facts; nobody needs to believe them

-- one more row was looked at: the list of its class has its interface at the end
pub record IsAdded (class : ℕ) (interface : TypeId) (before after : List (List TypeId)) : Type 0 where
  pub long : length after ≡ length before
  pub each : (j : ℕ) (named : List TypeId) → slice_get after j ≡ Some named → (old : List TypeId) × (slice_get before j ≡ Some old) × (named ≡ old ++ cond (class == j + 1) (interface ∷ []) [])
