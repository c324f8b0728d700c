use Rattle.class_names.specs.Inner.{AreNames}
use Rattle.class_names.proofs.unique.names_of.Given as goal

abbrev pub invariant-loop-index : goal.invariant-loop-index
invariant-loop-index l = AreNames l.types l.index l.names.items
