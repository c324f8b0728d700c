use Rattle.std.proofs.Common.{drop}
use Rattle.class_written.specs.Numbered.{AreNumbered}
use Rattle.class_written.proofs.types.numbers.Given as goal

abbrev pub invariant-loop-index : goal.invariant-loop-index
invariant-loop-index l = AreNumbered l.index (drop l.index l.found) l.numbers.entries
