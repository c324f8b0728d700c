use Rattle.cli_types.proofs.All.{IsSoFar}
use Rattle.cli_types.proofs.meaning.all_types.Given as goal

abbrev pub invariant-loop-raw : goal.invariant-loop-raw
invariant-loop-raw l = IsSoFar l.types l.raws l.found.items l.raw-index
