use Rattle.class_implemented.proofs.Marking.{AreMarking, left_over}
use Rattle.class_implemented.proofs.marked.with_marks.Given as goal

abbrev pub invariant-loop-at : goal.invariant-loop-at
invariant-loop-at l = AreMarking l.known l.flags l.t.0 l.fn.marks.items l.marks.items l.at

abbrev pub decreases-loop-at : goal.decreases-loop-at
decreases-loop-at l = left_over l.at
