use Rattle.cli_reached.specs.Visited.{AreVisited}
use Rattle.cli_reached.proofs.found.Visited.visit.Given as goal

abbrev pub invariant-loop-row : goal.invariant-loop-row
invariant-loop-row l = AreVisited l.row-index l.rows l.initial.self.marks.items l.initial.self.todo.items l.self.marks.items l.self.todo.items
