use Rattle.std.proofs.Common.{sym, subst, List, length, get_or, ◌*◌}
use Rattle.class_walk.specs.declared.walk.Step.{Step}
use Rattle.class_walk.specs.Walk.{IsWholeWalk}
use Rattle.class_walk.proofs.Read.{IsRead, whole_walk, read_begins, read_more, read_ends}
use Rattle.class_walk.proofs.walk.steps_of.Goals as goal

pub loop-at-init : goal.loop-at-init
loop-at-init c =
    let ring = c.requires.ring in
    let n = length c.args.types.now in
    let next = c.args.next.now in
    (ring, subst (λ (done : List Step). IsRead n next ring.steps done (get_or next (2 * n) 0)) (sym c.new-steps.ensures.items) (read_begins n next ring.steps ring.apart ring.spells))

pub loop-at-preserved : goal.loop-at-preserved
loop-at-preserved c =
    let ring = c.loop-at.invariant.0 in
    let n = length c.args.types.now in
    let next = c.args.next.now in
    let more = read_more n next ring.steps c.loop-at.steps.items c.loop-at.at c.loop-at-test.true c.loop-at.invariant.1 in
    (ring, rw (c.in_ok-push.ensures.items, c.step_of.ensures) more)

pub returns : goal.returns
returns c =
    let ring = c.loop-at.invariant.0 in
    let e = read_ends (length c.args.types.now) c.args.next.now ring.steps c.loop-at.steps.items c.loop-at.at c.loop-at-test.false c.loop-at.invariant.1 in
    subst (λ (steps : List Step). IsWholeWalk c.args.types.now steps) e (whole_walk c.args.types.now c.args.next.now c.args.order.now c.requires.order ring)
