use Rattle.std.proofs.Common.{refl, sym, arith}
use Rattle.std.proofs.lemmas.Bool.{false≢true}
use Rattle.std.proofs.lemmas.Option.{slice_get_within}
use Rattle.class_keys.proofs.Items.{item_at}
use Rattle.class_open.specs.Trail.{IsAlikeTo}
use Rattle.class_open.proofs.Hunt.{alike_sign, hunt_begins, hunt_found, hunt_on, hunt_ends, hunt_lower, hit}
use Rattle.class_open.proofs.alike.innermost_alike.Goals as goal

pub loop-at-init : goal.loop-at-init
loop-at-init c =
    let lt = slice_get_within c.args.members.now c.args.m c.args.row.now c.requires.stands in
    let sign = item_at c.args.signs.now c.args.m (let long = c.requires.signs.long in omega (arith, lt, long)) in
    let Fact = IsAlikeTo c.args.types.now c.args.members.now c.args.row.now in
    (sign.0, sign.1, hunt_begins Fact c.args.signs.now c.args.state.now.below.items sign.0 (alike_sign c.args.types.now c.args.members.now c.args.signs.now c.args.m sign.0 c.args.row.now c.requires.signs c.requires.stands sign.1) c.args.state.now.trail c.top_for-at.result (c.requires.stacked.leads sign.0 c.top_for-at.result (c.top_for-at.ensures sign.0 sign.1)))

pub returns-then-is_alike-clause-some : goal.returns-then-is_alike-clause-some
returns-then-is_alike-clause-some c =
    let inv = c.loop-at.invariant in
    let Fact = IsAlikeTo c.args.types.now c.args.members.now c.args.row.now in
    let sign = alike_sign c.args.types.now c.args.members.now c.args.signs.now c.args.m inv.0 c.args.row.now c.requires.signs c.requires.stands inv.1 in
    hunt_found Fact c.args.signs.now c.args.state.now.below.items inv.0 sign c.args.state.now.trail c.in-Some.n (rw (sym c.in-Some.is) inv.2) (c.if-is_alike.ensures.yes refl)

pub next_out-at-requires : goal.next_out-at-requires
next_out-at-requires c =
    let inv = c.loop-at.invariant in
    let Fact = IsAlikeTo c.args.types.now c.args.members.now c.args.row.now in
    let sign = alike_sign c.args.types.now c.args.members.now c.args.signs.now c.args.m inv.0 c.args.row.now c.requires.signs c.requires.stands inv.1 in
    let h = hit Fact c.args.signs.now c.args.state.now.below.items inv.0 sign c.args.state.now.trail c.in-Some.n (rw (sym c.in-Some.is) inv.2) in
    slice_get_within c.args.state.now.below.items c.in-Some.n h.next h.stands

pub loop-at-smaller : goal.loop-at-smaller
loop-at-smaller c =
    let inv = c.loop-at.invariant in
    let Fact = IsAlikeTo c.args.types.now c.args.members.now c.args.row.now in
    let sign = alike_sign c.args.types.now c.args.members.now c.args.signs.now c.args.m inv.0 c.args.row.now c.requires.signs c.requires.stands inv.1 in
    let off : Fact c.in-Some.n → ⊥ = λ like. false≢true (c.if-is_alike.ensures.no like) in
    let lower = hunt_lower Fact c.args.signs.now c.args.state.now.below.items inv.0 sign c.args.state.now.trail c.in-Some.n c.next_out-at.result c.requires.stacked.once (rw (sym c.in-Some.is) inv.2) off c.next_out-at.ensures in
    rw c.in-Some.is lower

pub loop-at-preserved : goal.loop-at-preserved
loop-at-preserved c =
    let inv = c.loop-at.invariant in
    let Fact = IsAlikeTo c.args.types.now c.args.members.now c.args.row.now in
    let sign = alike_sign c.args.types.now c.args.members.now c.args.signs.now c.args.m inv.0 c.args.row.now c.requires.signs c.requires.stands inv.1 in
    let off : Fact c.in-Some.n → ⊥ = λ like. false≢true (c.if-is_alike.ensures.no like) in
    (inv.0, inv.1, hunt_on Fact c.args.signs.now c.args.state.now.below.items inv.0 sign c.args.state.now.trail c.in-Some.n c.next_out-at.result (rw (sym c.in-Some.is) inv.2) off c.next_out-at.ensures)

pub returns-clause-none : goal.returns-clause-none
returns-clause-none c =
    let inv = c.loop-at.invariant in
    let Fact = IsAlikeTo c.args.types.now c.args.members.now c.args.row.now in
    let sign = alike_sign c.args.types.now c.args.members.now c.args.signs.now c.args.m inv.0 c.args.row.now c.requires.signs c.requires.stands inv.1 in
    hunt_ends Fact c.args.signs.now c.args.state.now.below.items inv.0 sign c.args.state.now.trail (rw (sym c.in_default.is) inv.2)
