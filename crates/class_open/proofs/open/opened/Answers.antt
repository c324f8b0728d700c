use Rattle.std.proofs.Common.{get_or}
use Rattle.std.proofs.lemmas.Option.{slice_get-get_or}
use Rattle.class_open.proofs.Opening.{is_fresh, opening_more, opening_ends}
use Rattle.class_open.proofs.open.opened.Goals as goal

pub with_picked-requires-clause-fresh : goal.with_picked-requires-clause-fresh
with_picked-requires-clause-fresh c =
    let own = c.args.own.now in
    let k = c.loop-m.m-index in
    is_fresh c.args.picks.now own c.args.state.trail c.loop-m.state.trail k (get_or own k 0) c.requires.apart c.requires.fresh (slice_get-get_or own k 0 c.loop-m-test.true) c.loop-m.invariant.1

pub loop-m-preserved : goal.loop-m-preserved
loop-m-preserved c =
    let own = c.args.own.now in
    let k = c.loop-m.m-index in
    (c.in_ok-state.ensures.stacked, opening_more c.args.picks.now own c.args.state.trail c.loop-m.state.trail c.in_ok-state.state.trail k (get_or own k 0) (slice_get-get_or own k 0 c.loop-m-test.true) c.loop-m.invariant.1 c.in_ok-state.ensures.more)

pub returns-clause-more : goal.returns-clause-more
returns-clause-more c =
    opening_ends c.args.picks.now c.args.own.now c.args.state.trail c.loop-m.state.trail c.loop-m.m-index c.loop-m-test.false c.loop-m.invariant.1
