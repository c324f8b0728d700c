-- The tokens that bodies name (ECMA-335 II.25.4).
use Rattle.std.specs.Prelude.{◌==◌, List, [], ◌∷◌, ◌++◌, Option, Some, None, cond}
use Rattle.std.specs.List.{filter_map}
use Rattle.dc_base.specs.declared.names.Token.{Token}
use Rattle.cil_body.specs.declared.body.Body.{Body}
use Rattle.cil_body.specs.declared.body.Clause.{Clause}
use Rattle.cil_body.specs.declared.body.ClauseKind.{ClauseKind}
use Rattle.cil_body.specs.declared.body.ClauseKind.TheVariants.{Catch, Finally}
use Rattle.cil_rows.specs.declared.row.Row.{Row}
use Rattle.cil_named.specs.Instructions.{token_of}

-- a catch names its class
abbrev pub class_by : ClauseKind → Token → Option Token
class_by Catch class = Some class
class_by Finally class = None

abbrev pub class_of : Clause → Option Token
class_of clause = class_by clause.kind clause.class

-- the signature of the locals; a body without locals has the token 0
abbrev pub locals_of : Body → List Token
locals_of body = cond (body.locals.0 == 0) [] (body.locals ∷ [])

-- what its instructions name, which are these rows, then the classes of its catches, then the signature of its locals
abbrev pub tokens_of : Body → List Row → List Token
tokens_of body rows = (filter_map token_of rows ++ filter_map class_of body.clauses) ++ locals_of body
