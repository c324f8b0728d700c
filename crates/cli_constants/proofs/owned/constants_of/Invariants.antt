use Rattle.cli_constants.proofs.Counted.{AreFrom}
use Rattle.cli_constants.proofs.owned.constants_of.Given as goal

abbrev pub invariant-loop-k : goal.invariant-loop-k
invariant-loop-k l = AreFrom l.metadata l.k l.constants.items
