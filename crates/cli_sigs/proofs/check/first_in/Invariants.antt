use Rattle.cli_sigs.proofs.Order.{NoneUpTo}
use Rattle.cli_sigs.proofs.check.first_in.Given as goal

abbrev pub invariant-loop-k : goal.invariant-loop-k
invariant-loop-k l = NoneUpTo l.subject l.table l.k
