use Rattle.std.proofs.Common.{◌≡◌, ◌++◌, map, drop}
use Rattle.class_texts.specs.MemberRows.{enumerator_row}
use Rattle.class_texts.proofs.content.enum_rows.Given as goal

abbrev pub invariant-loop-enumerator : goal.invariant-loop-enumerator
invariant-loop-enumerator l =
    l.rows.items ++ map (enumerator_row l.types l.owner.0) (drop l.enumerator-index l.enumerators) ≡ l.initial.rows.items ++ map (enumerator_row l.types l.owner.0) l.enumerators
