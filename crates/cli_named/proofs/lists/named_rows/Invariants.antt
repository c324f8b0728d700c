use Rattle.cli_named.proofs.Named.{AreFirst}
use Rattle.cli_named.proofs.lists.named_rows.Given as goal

abbrev pub invariant-loop-k : goal.invariant-loop-k
invariant-loop-k l = AreFirst l.metadata l.lists.items l.k
