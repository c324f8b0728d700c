use Rattle.std.proofs.Common.{codes, refl, lit<}
use Rattle.class_assign.proofs.System.{core_there}
use Rattle.class_assign.proofs.supers.array_of.Goals as goal

pub unreachable-requires : goal.unreachable-requires
unreachable-requires c = core_there c.args.types.now 3 (codes "Array") c.requires.core (lit< tt) refl c.in-None.ensures.none
