use Rattle.std.proofs.Common.{take}
use Rattle.class_alike.specs.Named.{AreMarks}
use Rattle.class_alike.proofs.named.marks_of.Given as goal

abbrev pub invariant-loop-pair : goal.invariant-loop-pair
invariant-loop-pair l = AreMarks l.types l.members (take l.pair-index l.explicit) l.marks.items
