use Rattle.class_members.specs.Names.{AreNamesIn}
use Rattle.class_members.proofs.odd.names_in.Given as goal

abbrev pub invariant-loop-m : goal.invariant-loop-m
invariant-loop-m l = AreNamesIn l.types l.members l.nameless l.m l.names.items
