use Rattle.std.proofs.Common.{◌≡◌, ◌++◌, drop}
use Rattle.class_texts.specs.Pairs.{implementing_from}
use Rattle.class_texts.proofs.pairs.implementing.Given as goal

abbrev pub invariant-loop-index : goal.invariant-loop-index
invariant-loop-index l = l.asked.items ++ implementing_from l.index (drop l.index l.rows) ≡ implementing_from 0 l.rows
