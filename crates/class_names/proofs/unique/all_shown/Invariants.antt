use Rattle.class_names.specs.Shown.{AreShown}
use Rattle.class_names.proofs.unique.all_shown.Given as goal

abbrev pub invariant-loop-index : goal.invariant-loop-index
invariant-loop-index l = AreShown l.types l.names l.index l.keys.items
