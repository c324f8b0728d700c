-- What a type extends (ECMA-335 II.22.37).
use Rattle.std.specs.Prelude.{◌%◌, ◌^◌, ◌==◌, cond, Option, Some, None}
use Rattle.dc_base.specs.declared.names.Token.{Token}
use Rattle.dc_base.specs.declared.names.TypeId.{TypeId}
use Rattle.cli_types.specs.declared.types.Tokens.{Tokens}
use Rattle.cli_types.specs.Named.{type_named}

-- a number that no list of types has, and so names nothing
abbrev pub nothing : TypeId
nothing = record { 0 = 0xFFFFFFFF }

abbrev pub or_nothing : Option TypeId → TypeId
or_nothing (Some t) = t
or_nothing None = nothing

-- row 0 is no type; a token that means none names nothing
abbrev pub base_of : Tokens → Option Token → Option TypeId
base_of tokens None = Some nothing
base_of tokens (Some token) = cond (token.0 % 2 ^ 24 == 0) None (Some (or_nothing (type_named tokens token)))
