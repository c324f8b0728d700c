use Rattle.cli_refs.specs.Asked.{AreAsked}
use Rattle.cli_refs.proofs.asked.asked_of.Given as goal

abbrev pub invariant-loop-q : goal.invariant-loop-q
invariant-loop-q l = AreAsked l.sought l.count l.q l.asked.last.items l.asked.before.items
