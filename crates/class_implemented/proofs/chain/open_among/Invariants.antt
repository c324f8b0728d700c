use Rattle.class_implemented.proofs.Open.{IsAmong}
use Rattle.class_implemented.proofs.chain.open_among.Given as goal

abbrev pub invariant-loop-i : goal.invariant-loop-i
invariant-loop-i l = IsAmong l.known l.c.0 l.interfaces l.i-index l.least
