use Rattle.std.proofs.Common.{ℕ, ◌<◌, length}
use Rattle.class_rows.specs.Types.{IsOuter}
use Rattle.class_names.proofs.tests.outers_are_there.Given as goal

abbrev pub invariant-loop-row : goal.invariant-loop-row
invariant-loop-row l = (t o : ℕ) → t < l.row-index → IsOuter l.types t o → o < length l.types
