use Rattle.class_slots.specs.Known.{AreVirtuals}
use Rattle.class_slots.proofs.known.virtuals_of.Given as goal

abbrev pub invariant-loop-m : goal.invariant-loop-m
invariant-loop-m l = AreVirtuals l.types l.members l.explicit l.m l.flags.items
