use Rattle.std.proofs.Common.{◌+◌, length}
use Rattle.cli_scopes.proofs.Marks.{new_work}
use Rattle.cli_scopes.proofs.Settled.{IsWalk}
use Rattle.cli_scopes.proofs.walk.settle.Given as goal

abbrev pub invariant-loop-at : goal.invariant-loop-at
invariant-loop-at l = IsWalk l.index l.refs l.root l.fn.marks l.marks l.stack

abbrev pub decreases-loop-at : goal.decreases-loop-at
decreases-loop-at l = new_work l.marks + length l.stack
