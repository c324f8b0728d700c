use Rattle.cli_refs.proofs.Answering.{AreAnswering, left_over}
use Rattle.cli_refs.proofs.walked.answered.Given as goal

abbrev pub invariant-loop-at : goal.invariant-loop-at
invariant-loop-at l = AreAnswering l.known l.t.0 l.fn.found.items l.found.items l.at

abbrev pub decreases-loop-at : goal.decreases-loop-at
decreases-loop-at l = left_over l.at
