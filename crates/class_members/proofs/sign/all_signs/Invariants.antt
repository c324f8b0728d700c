use Rattle.class_members.specs.Signs.{AreSigns}
use Rattle.class_members.proofs.sign.all_signs.Given as goal

abbrev pub invariant-loop-m : goal.invariant-loop-m
invariant-loop-m l = AreSigns l.types l.members l.nameless l.m l.signs.items
