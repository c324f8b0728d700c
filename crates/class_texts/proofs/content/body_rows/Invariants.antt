use Rattle.std.proofs.Common.{◌≡◌, ◌++◌, map, drop}
use Rattle.cs_declared.specs.Types.{members_of, item_grown}
use Rattle.class_texts.specs.MemberRows.{all_member_rows}
use Rattle.class_texts.proofs.content.body_rows.Given as goal

abbrev pub invariant-loop-item : goal.invariant-loop-item
invariant-loop-item l =
    l.rows.items ++ all_member_rows l.types l.home (members_of (map item_grown (drop l.item-index l.items))) ≡ l.initial.rows.items ++ all_member_rows l.types l.home (members_of (map item_grown l.items))
