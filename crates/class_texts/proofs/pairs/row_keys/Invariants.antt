use Rattle.class_texts.specs.Keys.{AreRowKeys}
use Rattle.class_texts.proofs.pairs.row_keys.Given as goal

abbrev pub invariant-loop-row : goal.invariant-loop-row
invariant-loop-row l = AreRowKeys l.rows l.row-index l.keys.items
