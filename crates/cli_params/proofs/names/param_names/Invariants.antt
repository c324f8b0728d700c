use Rattle.cli_params.proofs.Written.{AreFirst}
use Rattle.cli_params.proofs.names.param_names.Given as goal

abbrev pub invariant-loop-row : goal.invariant-loop-row
invariant-loop-row l = AreFirst l.metadata l.params l.k l.row-index l.names.items
