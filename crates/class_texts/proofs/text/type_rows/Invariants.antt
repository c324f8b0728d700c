use Rattle.std.proofs.Common.{◌≡◌, map, take}
use Rattle.cs_declared.specs.Seen.{seen}
use Rattle.class_written.specs.TypeRows.{type_row}
use Rattle.class_texts.proofs.text.type_rows.Given as goal

abbrev pub invariant-loop-declared : goal.invariant-loop-declared
invariant-loop-declared l = l.rows.items ≡ map (λ d. type_row l.types (seen d)) (take l.declared-index l.found)
