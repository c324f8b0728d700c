use Rattle.std.proofs.Common.{◌≡◌, map, drop}
use Rattle.cs_declared.specs.Types.{all_grown, types_of, item_grown}
use Rattle.cs_declared.specs.Seen.{seen}
use Rattle.cs_declared.proofs.walk.+walk.Given as goal

abbrev pub invariant-of_items-loop-item : goal.invariant-of_items-loop-item
invariant-of_items-loop-item l =
    all_grown (types_of (map item_grown (drop l.item-index l.items))) l.scope (map seen l.found.items) ≡ all_grown (types_of (map item_grown l.items)) l.scope (map seen l.initial.found.items)
