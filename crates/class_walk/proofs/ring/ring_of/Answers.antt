use Rattle.std.proofs.Common.{get_or}
use Rattle.std.proofs.lemmas.Option.{slice_get-get_or}
use Rattle.class_walk.proofs.Put.{more}
use Rattle.class_walk.proofs.ring.ring_of.Goals as goal

pub loop-t-preserved : goal.loop-t-preserved
loop-t-preserved c =
    let order = c.args.order.now in
    let k = c.loop-t.t-index in
    let t = get_or order k 0 in
    let stands = slice_get-get_or order k 0 c.loop-t-test.true in
    more c.args.types.now c.loop-t.next.items c.with_type-next.result.items order k c.below.result t (c.requires.order.within k t stands) stands c.loop-t.invariant c.with_type-next.ensures c.requires.order c.below.ensures
