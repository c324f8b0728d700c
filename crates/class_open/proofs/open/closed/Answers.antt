use Rattle.std.proofs.Common.{ℕ, List, get_or, refl, subst, inl, arith}
use Rattle.std.proofs.lemmas.Option.{slice_get-get_or}
use Rattle.class_keys.proofs.Items.{read_item}
use Rattle.class_open.specs.Stacks.{AreStacked}
use Rattle.class_open.proofs.Put.{popped}
use Rattle.class_open.proofs.Closing.{AreClosing, closing_more}
use Rattle.class_open.proofs.open.closed.Goals as goal

pub index-requires : goal.index-requires
index-requires c =
    let are = subst (λ (l : List ℕ). AreStacked c.args.signs.now c.loop-m.tops.items c.args.state.below.items l) c.in-Some.ensures c.loop-m.invariant.0 in
    let lt = are.within c.in-Some.m (inl refl) in
    omega (arith, lt, are.long)

pub bounds-signs-m : goal.bounds-signs-m
bounds-signs-m c =
    let are = subst (λ (l : List ℕ). AreStacked c.args.signs.now c.loop-m.tops.items c.args.state.below.items l) c.in-Some.ensures c.loop-m.invariant.0 in
    are.within c.in-Some.m (inl refl)

pub index_mut-requires : goal.index_mut-requires
index_mut-requires c =
    let are = subst (λ (l : List ℕ). AreStacked c.args.signs.now c.loop-m.tops.items c.args.state.below.items l) c.in-Some.ensures c.loop-m.invariant.0 in
    let lt = are.within c.in-Some.m (inl refl) in
    let small = are.small c.in-Some.m (get_or c.args.signs.now c.in-Some.m 0) (slice_get-get_or c.args.signs.now c.in-Some.m 0 lt) in
    omega (arith, small)

pub loop-m-preserved : goal.loop-m-preserved
loop-m-preserved c =
    let signs = c.args.signs.now in
    let below = c.args.state.below.items in
    let m = c.in-Some.m in
    let are = subst (λ (l : List ℕ). AreStacked signs c.loop-m.tops.items below l) c.in-Some.ensures c.loop-m.invariant.0 in
    let lt = are.within m (inl refl) in
    let at = read_item below m c.index.result.now (omega (arith, lt, are.long)) c.index.ensures in
    let closing = subst (λ (l : List ℕ). AreClosing c.args.members.now c.args.t.0 c.args.state.trail l) c.in-Some.ensures c.loop-m.invariant.1 in (
      popped signs c.loop-m.tops.items below c.pop.new.self m (get_or signs m 0) c.index.result.now are (slice_get-get_or signs m 0 lt) at,
      closing_more c.args.members.now c.args.t.0 m c.args.state.trail c.pop.new.self (c.if-not-is_of.ensures.yes refl) closing,
    )
