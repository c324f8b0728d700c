use Rattle.std.proofs.Common.{◌≡◌, length, replicate, false, rules}
use Rattle.class_members.proofs.Roots.{all_marked}
use Rattle.class_members.proofs.fieldless.fieldless_types.Goals as goal

pub returns : goal.returns
returns c =
    let none : c.in_ok-none.none.items ≡ replicate (length c.args.types.now) false = search rules in
    let long : length c.in_ok-none.none.items ≡ length c.args.types.now = search rules in
    all_marked c.args.types.now c.in_ok-none.none.items c.mark_root-object.result.items c.mark_root-value.result.items c.mark_root-enums.result.items c.mark_root-array.result.items c.mark_root.result.items none long c.mark_root-object.ensures c.mark_root-value.ensures c.mark_root-enums.ensures c.mark_root-array.ensures c.mark_root.ensures
