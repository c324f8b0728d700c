use Rattle.cli_names.proofs.Lists.{AreFirstOwn}
use Rattle.cli_names.proofs.names.type_names.Given as goal

abbrev pub invariant-loop-k : goal.invariant-loop-k
invariant-loop-k l = AreFirstOwn l.references l.metadata l.outers l.names.items l.k
