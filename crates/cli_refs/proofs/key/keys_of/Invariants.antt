use Rattle.cli_refs.specs.Keys.{AreKeys}
use Rattle.cli_refs.proofs.key.keys_of.Given as goal

abbrev pub invariant-loop-q : goal.invariant-loop-q
invariant-loop-q l = AreKeys l.members l.sought l.q l.keys.items
