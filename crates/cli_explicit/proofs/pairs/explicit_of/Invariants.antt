use Rattle.cli_explicit.proofs.Written.{AreFirst}
use Rattle.cli_explicit.proofs.pairs.explicit_of.Given as goal

abbrev pub invariant-loop-k : goal.invariant-loop-k
invariant-loop-k l = AreFirst l.metadata l.members l.k l.pairs.items
