use Rattle.std.proofs.Common.{refl, rules}
use Rattle.cs_meaning.proofs.Flat.{body_typed, body_assigned}
use Rattle.cs_meaning.proofs.tests.flat.Goals as goal

pub returns-clause-typed : goal.returns-clause-typed
returns-clause-typed c =
    body_typed _ c.in_ok-variables.field-0 c.in_ok-flat_stmts.field-0 c.args.op refl refl refl c.int.ensures (search rules) (search rules) c.requires

pub returns-clause-assigned : goal.returns-clause-assigned
returns-clause-assigned c =
    body_assigned c.in_ok-variables.field-0 c.in_ok-flat_stmts.field-0 c.args.op (search rules) (search rules)
