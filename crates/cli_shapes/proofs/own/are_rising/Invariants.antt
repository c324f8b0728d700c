use Rattle.cli_shapes.proofs.Rising.{AreRisingTo}
use Rattle.cli_shapes.proofs.own.are_rising.Given as goal

abbrev pub invariant-loop-k : goal.invariant-loop-k
invariant-loop-k l = AreRisingTo l.told l.k l.bound
