use Rattle.std.proofs.Common.{Some, get_or, ap, ◌∙◌}
use Rattle.std.proofs.lemmas.List.Elements.{Contains-get_or}
use Rattle.std.proofs.lemmas.Option.{slice_get-get_or}
use Rattle.class_slots.proofs.Under.{goes_on, is_done}
use Rattle.class_slots.proofs.walked.with_slots_of.Goals as goal

pub loop-m-preserved : goal.loop-m-preserved
loop-m-preserved c =
    let known = c.args.known.now in
    let own = c.args.own.now in
    let k = c.loop-m.m-index in
    let m = get_or own k 0 in
    let owned = (c.requires.own m).0 (Contains-get_or own k 0 c.loop-m-test.true) in
    goes_on known.types.now known.members.now known.explicit.now known.order.now c.requires.known.order c.args.slots.items c.loop-m.slots.items c.with_slot-slots.result.items c.args.t.0 own k m
    (slice_get-get_or own k 0 c.loop-m-test.true) owned c.loop-m.invariant c.with_slot-slots.ensures

pub returns : goal.returns
returns c =
    let known = c.args.known.now in
    let own = c.args.own.now in
    is_done known.types.now known.members.now known.explicit.now c.args.slots.items c.loop-m.slots.items c.args.t.0 own c.loop-m.m-index c.loop-m-test.false
    (λ m of_. let in_ = (c.requires.own m).1 of_ in (in_.0, slice_get-get_or own in_.0 m in_.1 ∙ ap Some in_.2))
    c.loop-m.invariant
