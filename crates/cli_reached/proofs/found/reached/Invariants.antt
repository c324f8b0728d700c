use Rattle.std.proofs.Common.{◌+◌, not, length, count_by}
use Rattle.cli_reached.specs.Visited.{AreUnderWay}
use Rattle.cli_reached.proofs.found.reached.Given as goal

abbrev pub invariant-loop-row : goal.invariant-loop-row
invariant-loop-row l = AreUnderWay l.roots l.names l.visited.marks.items l.visited.todo.items

abbrev pub decreases-loop-row : goal.decreases-loop-row
decreases-loop-row l = count_by not l.visited.marks.items + length l.visited.todo.items
