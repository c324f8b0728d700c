use Rattle.std.proofs.Common.{◌≡◌, take}
use Rattle.std.specs.Prelude.{◌+◌, ◌*◌, map}
use Rattle.std.specs.String.{string_bytes}
use Rattle.cs_layout.specs.Pieces.{followed}
use Rattle.cs_unit_layout.specs.Units.{each, item_laid}
use Rattle.cs_print.proofs.units.+types.Given as goal

abbrev pub invariant-write_each_item-loop-item : goal.invariant-write_each_item-loop-item
invariant-write_each_item-loop-item l =
    string_bytes l.out ≡ followed (string_bytes l.initial.out) (each (map item_laid (take l.item-index l.items)) l.margin)

-- A call goes down by the depth of the types that it is passed, or to a function that stands lower at the same depth.
abbrev pub decreases-write_decl : goal.decreases-write_decl
decreases-write_decl l = 8 * goal.size-write_decl l + 0

abbrev pub decreases-write_item : goal.decreases-write_item
decreases-write_item l = 8 * goal.size-write_item l + 0

abbrev pub decreases-write_each_item : goal.decreases-write_each_item
decreases-write_each_item l = 8 * goal.size-write_each_item l + 1

abbrev pub decreases-write_items : goal.decreases-write_items
decreases-write_items l = 8 * goal.size-write_items l + 2

abbrev pub decreases-write_body_type : goal.decreases-write_body_type
decreases-write_body_type l = 8 * goal.size-write_body_type l + 3
