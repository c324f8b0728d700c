use Rattle.std.proofs.Common.{rules, refl, ◌≡◌, ◌<◌, length, arith}
use Rattle.std.proofs.lemmas.List.{get_or_default}
use Rattle.class_names.proofs.OneOf.{adds_one}
use Rattle.class_names.proofs.space.with_all.Goals as goal

pub loop-prefix-preserved : goal.loop-prefix-preserved
loop-prefix-preserved c =
    let lt : c.loop-prefix.prefix-index < length c.args.found.now = omega arith in
    adds_one c.args.spaces.keys c.args.found.now c.loop-prefix.spaces.keys _ c.loop-prefix.prefix-index _ lt (get_or_default _ _ _ _ lt) c.loop-prefix.invariant c.in_ok-insert_full.ensures.keys
