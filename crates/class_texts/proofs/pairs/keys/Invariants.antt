use Rattle.class_texts.specs.Keys.{AreKeys}
use Rattle.class_texts.proofs.pairs.keys.Given as goal

abbrev pub invariant-loop-number : goal.invariant-loop-number
invariant-loop-number l = AreKeys l.types l.rows l.asked l.number-index l.keys.items
