use Rattle.class_implemented.proofs.Open.{IsWithin}
use Rattle.class_implemented.proofs.chain.open_in.Given as goal

abbrev pub invariant-loop-m : goal.invariant-loop-m
invariant-loop-m l = IsWithin l.known l.c.0 l.fn.i.0 l.own l.m-index l.least
