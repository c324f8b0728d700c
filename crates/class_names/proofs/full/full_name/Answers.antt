use Rattle.std.proofs.Common.{◌≡◌, Some, None, rules, refl, sym, ◌∙◌, ap, arith}
use Rattle.std.specs.List.{slice_get}
use Rattle.std.proofs.lemmas.Option.{slice_get_read}
use Rattle.std.proofs.lemmas.Result.{IfOk-weaker}
use Rattle.class_parts.proofs.Climb.{lower_outer}
use Rattle.class_names.proofs.Walk.{walk_goes_out, walk_ends, no_outer}
use Rattle.class_names.proofs.full.full_name.Goals as goal

pub loop-outer-smaller : goal.loop-outer-smaller
loop-outer-smaller c = lower_outer c.args.types.now c.args.order.now c.loop-outer.at.0 c.in-Some.outer.0 c.requires.order c.in-Some.ensures.some

pub loop-outer-preserved : goal.loop-outer-preserved
loop-outer-preserved c =
    let outer = c.in-Some.ensures.some in
    let stands : slice_get c.args.types.now c.loop-outer.at.0 ≡ Some c.index-types-at.result = slice_get_read _ _ _ _ refl c.loop-outer.invariant.within c.index-types-at.is in
    walk_goes_out c.args.types.now c.args.t.0 c.loop-outer.at.0 c.in-Some.outer.0 c.index-types-at.result _ _ c.as_str.result c.loop-outer.invariant stands outer (c.requires.outers _ _ outer) (search rules) c.in_ok-push.ensures.items

pub returns : goal.returns
returns c =
    let stands : slice_get c.args.types.now c.loop-outer.at.0 ≡ Some c.index-types-at-2.result = slice_get_read _ _ _ _ refl c.loop-outer.invariant.within c.index-types-at-2.is in
    let top = no_outer c.args.types.now c.loop-outer.at.0 c.index-types-at-2.result stands c.in_default.ensures.none in
    let h = rw c.as_slice.ensures.value at c.joined.ensures in
    IfOk-weaker _ _ _ (λ name is. walk_ends c.args.types.now c.args.t.0 c.loop-outer.at.0 c.index-types-at-2.result c.loop-outer.inner.items name c.loop-outer.invariant stands top is) h
