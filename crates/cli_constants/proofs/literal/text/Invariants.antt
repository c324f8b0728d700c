use Rattle.std.proofs.Common.{◌≡◌, length}
use Rattle.cli_constants.specs.Values.{units_in}
use Rattle.cli_constants.proofs.Units.{joined}
use Rattle.cli_constants.proofs.literal.text.Given as goal

abbrev pub invariant-loop-rest : goal.invariant-loop-rest
invariant-loop-rest l = units_in l.bytes ≡ joined l.units.items (units_in l.rest)

abbrev pub decreases-loop-rest : goal.decreases-loop-rest
decreases-loop-rest l = length l.rest
