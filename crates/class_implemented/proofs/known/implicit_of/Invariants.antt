use Rattle.class_implemented.specs.Known.{AreImplicit}
use Rattle.class_implemented.proofs.known.implicit_of.Given as goal

abbrev pub invariant-loop-m : goal.invariant-loop-m
invariant-loop-m l = AreImplicit l.members l.m l.flags.items
