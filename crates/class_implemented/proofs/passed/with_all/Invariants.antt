use Rattle.class_implemented.specs.Open.{IsMarkedWith}
use Rattle.class_implemented.proofs.passed.with_all.Given as goal

abbrev pub invariant-loop-i : goal.invariant-loop-i
invariant-loop-i l = IsMarkedWith l.initial.passed.items l.passed.items l.interfaces l.c.0
