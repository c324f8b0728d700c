use Rattle.class_implemented.specs.Explicit.{AreByType}
use Rattle.class_implemented.proofs.explicit.by_type.Given as goal

abbrev pub invariant-loop-k : goal.invariant-loop-k
invariant-loop-k l = AreByType l.members l.explicit l.count l.k l.by.last.items l.by.before.items
