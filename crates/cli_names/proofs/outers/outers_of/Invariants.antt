use Rattle.cli_names.specs.Outers.{AreOutersBehind}
use Rattle.cli_names.proofs.outers.outers_of.Given as goal

abbrev pub invariant-loop-k : goal.invariant-loop-k
invariant-loop-k l = AreOutersBehind l.metadata l.k l.outers.items
