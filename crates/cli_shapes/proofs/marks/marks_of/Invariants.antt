use Rattle.cli_shapes.specs.Marks.{AreMarksTo}
use Rattle.cli_shapes.proofs.marks.marks_of.Given as goal

abbrev pub invariant-loop-k : goal.invariant-loop-k
invariant-loop-k l = AreMarksTo l.own l.sought l.k l.marks.items
