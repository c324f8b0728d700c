use Rattle.cli_sigs.proofs.Order.{all, NoneBefore}
use Rattle.cli_sigs.proofs.check.check_signatures.Given as goal

abbrev pub invariant-loop-table : goal.invariant-loop-table
invariant-loop-table l = NoneBefore l.subject all l.table-index
