use Rattle.cli_names.proofs.Lists.{AreFirst}
use Rattle.cli_names.proofs.names.reference_names.Given as goal

abbrev pub invariant-loop-row : goal.invariant-loop-row
invariant-loop-row l = AreFirst l.references l.names.items l.row-index
