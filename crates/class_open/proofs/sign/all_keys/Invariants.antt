use Rattle.class_open.specs.Signs.{AreKeys}
use Rattle.class_open.proofs.sign.all_keys.Given as goal

abbrev pub invariant-loop-m : goal.invariant-loop-m
invariant-loop-m l = AreKeys l.members l.m l.keys.items
