use Rattle.cli_profile.proofs.Stable.{field, method, spec, assembly}
use Rattle.cli_profile.proofs.judged.Judged.condition.Goals as goal

pub returns-in-Field : goal.returns-in-Field
returns-in-Field c = field c.args.rows.now c.args.self c.args.k c.in-Field.is c.requires.within c.requires.fails

pub returns-in-MethodDef-2 : goal.returns-in-MethodDef-2
returns-in-MethodDef-2 c = method c.args.rows.now c.args.self c.args.k c.in-MethodDef-2.is c.if-is_foreign.ensures.no c.requires.within c.requires.fails

pub returns-in-TypeSpec : goal.returns-in-TypeSpec
returns-in-TypeSpec c = spec c.args.rows.now c.args.self c.args.k c.in-TypeSpec.is c.requires.within c.requires.fails

pub returns-in-Assembly : goal.returns-in-Assembly
returns-in-Assembly c = assembly c.args.rows.now c.args.self c.args.k c.in-Assembly.is c.requires.within c.requires.fails
