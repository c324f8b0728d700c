use Rattle.ilspy_body.proofs.FlatCode.{SoFar}
use Rattle.ilspy_body.proofs.flat_form.flattened.Given as goal

abbrev pub invariant-loop-simple : goal.invariant-loop-simple
invariant-loop-simple l = SoFar l.code l.simple-index l.stmts l.slots l.next
