-- The types that tokens mean (ECMA-335 II.22.37, II.22.38).
use Rattle.std.specs.Prelude.{ℕ, ◌+◌, ◌-◌, ◌/◌, ◌%◌, ◌^◌, slice_get, nat_lt, ◌==◌, cond, Option, Some, None}
use Rattle.dc_base.specs.declared.names.Token.{Token}
use Rattle.dc_base.specs.declared.names.TypeId.{TypeId}
use Rattle.dc_base.specs.declared.ty.Core.{Core}
use Rattle.cli_types.specs.declared.types.Tokens.{Tokens}
use Rattle.cli_types.specs.declared.types.Types.{Types}

abbrev pub type_id : ℕ → TypeId
type_id t = record { 0 = t }

abbrev pub type_if : Tokens → ℕ → Option TypeId
type_if tokens t = cond (nat_lt t tokens.types) (Some (type_id t)) None

-- row 2 of TypeDef is the first own type, and the others stand behind it; row 1 stands for the module
abbrev pub own_type : Tokens → ℕ → Option TypeId
own_type tokens row = cond (nat_lt row 2) None (type_if tokens (tokens.own_from + (row - 2)))

abbrev pub or_none : Option (Option TypeId) → Option TypeId
or_none (Some found) = found
or_none None = None

abbrev pub ref_type : Tokens → ℕ → Option TypeId
ref_type tokens row = cond (row == 0) None (or_none (slice_get tokens.refs (row - 1)))

-- what a token means: the table's number is in its top byte
abbrev pub type_named : Tokens → Token → Option TypeId
type_named tokens token =
    let row = token.0 % 2 ^ 24 in
    let table = token.0 / 2 ^ 24 in
    cond (table == 0x01) (ref_type tokens row) (cond (table == 0x02) (own_type tokens row) None)

abbrev pub core_at : Types → TypeId → Option Core
core_at types t = slice_get types.cores t.0

abbrev pub core_of : Types → Option TypeId → Option Core
core_of types None = None
core_of types (Some t) = core_at types t

abbrev pub core_named : Types → Token → Option Core
core_named types token = core_of types (type_named types.tokens token)
