use Rattle.std.proofs.Common.{ℕ, [], ◌≡◌, ◌+◌, subst}
use Rattle.class_rows.specs.Members.{HasMember}
use Rattle.class_rows.specs.Lookups.{IsSlot}
use Rattle.cli_shapes.specs.Members.{IsOfObject}
use Rattle.cli_shapes.proofs.Slots.{one_slot, excluded}
use Rattle.cli_shapes.proofs.members.has_slot_of_object.Goals as goal

pub returns-clause-no : goal.returns-clause-no
returns-clause-no c =
    let s = c.args.own.now in
    let m = s.first_member.0 + c.args.k in
    let slot : IsSlot s.table.now.types s.table.now.members s.table.now.explicit m c.slot.result.0 =
    subst (λ (n : ℕ). IsSlot s.table.now.types s.table.now.members s.table.now.explicit n c.slot.result.0) c.member.ensures.is c.slot.ensures in
    let bare : HasMember s.table.now.members m (λ r. r.params ≡ []) =
    record { row = c.requires.named.row; stands = c.requires.named.stands; is = c.requires.named.is.1 } in
    excluded (IsSlot s.table.now.types s.table.now.members s.table.now.explicit m) (IsOfObject s) _ c.slot.result.0
    (λ n is. one_slot s.table.now.types s.table.now.members s.table.now.explicit c.is_class_table.ensures.members_are_unique m n c.slot.result.0 bare is slot)
    c.is_of_object.ensures.no
