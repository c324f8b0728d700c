use Rattle.std.proofs.Common.{◌≡◌, ◌++◌, map}
use Rattle.class_texts.proofs.text.members.Given as goal

abbrev pub invariant-loop-row : goal.invariant-loop-row
invariant-loop-row l = l.members.items ++ map (λ r. r.row) l.row-iterator.rest.items ≡ map (λ r. r.row) l.fn.rows.items
