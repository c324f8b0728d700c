use Rattle.class_implemented.proofs.Passing.{passed_up}
use Rattle.class_implemented.proofs.passed.is_passed.Goals as goal

pub returns-in-Some : goal.returns-in-Some
returns-in-Some c = λ t. passed_up c.args.known.now c.args.c.0 c.in-Some.base.0 c.args.t c.in-Some.ensures.some (c.requires c.args.t c.in-Some.base.0 (c.is_passed_for.ensures t))
