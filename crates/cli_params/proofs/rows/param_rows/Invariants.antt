use Rattle.cli_params.specs.Put.{AreBefore}
use Rattle.cli_params.proofs.rows.param_rows.Given as goal

abbrev pub invariant-loop-r : goal.invariant-loop-r
invariant-loop-r l = AreBefore l.metadata l.params l.k l.count l.r l.found.items
