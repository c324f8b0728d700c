use Rattle.std.proofs.Common.{◌≡◌, ◌++◌, map, drop}
use Rattle.cs_declared.specs.Seen.{seen}
use Rattle.class_texts.specs.MemberRows.{rows_from}
use Rattle.class_texts.proofs.content.all_rows.Given as goal

abbrev pub invariant-loop-index : goal.invariant-loop-index
invariant-loop-index l =
    l.rows.items ++ rows_from l.types l.index (map (λ d. seen d) (drop l.index l.found)) ≡ rows_from l.types 0 (map (λ d. seen d) l.found)
