use Rattle.std.proofs.Common.{refl}
use Rattle.class_chains.specs.Ends.{here}
use Rattle.class_implemented.proofs.Up.{from_missing}
use Rattle.class_implemented.proofs.walked.with_class.Goals as goal

pub passed_by-requires-clause-none : goal.passed_by-requires-clause-none
passed_by-requires-clause-none c = λ m open_. c.requires.none m (from_missing c.args.known.now c.args.c.0 c.args.c.0 m (c.if-is_class.ensures.yes refl) (here c.args.c.0) open_)
