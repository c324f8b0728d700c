-- The tokens that instructions name (ECMA-335 III.1.9): of types and members, and of user strings.
use Rattle.std.specs.Prelude.{Option, Some, None}
use Rattle.dc_base.specs.declared.names.Token.{Token}
use Rattle.cil_rows.specs.declared.row.Access.{Access}
use Rattle.cil_rows.specs.declared.row.Access.TheVariants.{Typed}
use Rattle.cil_rows.specs.declared.row.Row.{Row}
use Rattle.cil_rows.specs.declared.row.Row.TheVariants as row

abbrev pub token_of_access : Access → Option Token
token_of_access (Typed token) = Some token
token_of_access _ = None

abbrev pub token_of : Row → Option Token
token_of (row.Text token) = Some token
token_of (row.Call callee by_slot) = Some callee
token_of (row.New token) = Some token
token_of (row.Function target by_slot) = Some target
token_of (row.LoadField token) = Some token
token_of (row.FieldAddress token) = Some token
token_of (row.StoreField token) = Some token
token_of (row.LoadStatic token) = Some token
token_of (row.StaticAddress token) = Some token
token_of (row.StoreStatic token) = Some token
token_of (row.NewArray token) = Some token
token_of (row.LoadElement access) = token_of_access access
token_of (row.ElementAddress token) = Some token
token_of (row.StoreElement access) = token_of_access access
token_of (row.LoadIndirect access) = token_of_access access
token_of (row.StoreIndirect access) = token_of_access access
token_of (row.Cast token) = Some token
token_of (row.IsInstance token) = Some token
token_of (row.Box token) = Some token
token_of (row.Unbox token) = Some token
token_of (row.UnboxAny token) = Some token
token_of _ = None
