use Rattle.cli_slots.proofs.Under.{IsUnderWay}
use Rattle.cli_slots.proofs.told.with_told_of.Given as goal

abbrev pub invariant-loop-m : goal.invariant-loop-m
invariant-loop-m l = IsUnderWay l.known l.stacks.trail l.t.0 l.fn.told l.own l.virts.items l.picks.items l.m-index
