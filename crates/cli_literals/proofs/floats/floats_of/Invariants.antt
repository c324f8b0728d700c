use Rattle.cli_literals.specs.Marks.{AreMarkedTo}
use Rattle.cli_literals.proofs.floats.floats_of.Given as goal

abbrev pub invariant-loop-k : goal.invariant-loop-k
invariant-loop-k l = AreMarkedTo l.metadata l.k l.floats.items
