use Rattle.cli_accessors.specs.Put.{AreBehind}
use Rattle.cli_accessors.proofs.parts.accessors_of.Given as goal

abbrev pub invariant-loop-k : goal.invariant-loop-k
invariant-loop-k l = AreBehind l.metadata l.fn.part l.k l.found.items
