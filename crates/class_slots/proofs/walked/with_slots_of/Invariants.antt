use Rattle.class_slots.proofs.Under.{IsUnderWay}
use Rattle.class_slots.proofs.walked.with_slots_of.Given as goal

abbrev pub invariant-loop-m : goal.invariant-loop-m
invariant-loop-m l = IsUnderWay l.known.types.now l.known.members.now l.known.explicit.now l.fn.slots.items l.slots.items l.t.0 l.own l.m-index
