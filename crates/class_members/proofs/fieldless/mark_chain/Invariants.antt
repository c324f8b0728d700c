use Rattle.class_members.proofs.Chain.{IsMarking, left_of}
use Rattle.class_members.proofs.fieldless.mark_chain.Given as goal

abbrev pub invariant-loop-next : goal.invariant-loop-next
invariant-loop-next l = IsMarking l.types l.fn.t.0 l.next l.initial.flags.items l.flags.items

abbrev pub decreases-loop-next : goal.decreases-loop-next
decreases-loop-next l = left_of l.types l.order l.next
