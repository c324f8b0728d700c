use Rattle.class_members.proofs.Chain.{next_is, next_is_lower, marked_on}
use Rattle.class_members.proofs.fieldless.mark_chain.Goals as goal

pub loop-next-smaller : goal.loop-next-smaller
loop-next-smaller c =
    let is = next_is c.args.types.now c.in-Some.at.0 c.base_of-next.result c.base_of-next.ensures.some c.base_of-next.ensures.none in
    rw c.in-Some.is (next_is_lower c.args.types.now c.args.order.now c.in-Some.at c.base_of-next.result c.requires.order is)

pub loop-next-preserved : goal.loop-next-preserved
loop-next-preserved c =
    let is = next_is c.args.types.now c.in-Some.at.0 c.base_of-next.result c.base_of-next.ensures.some c.base_of-next.ensures.none in
    let so = rw c.in-Some.is at c.loop-next.invariant in
    rw c.with_mark-flags.ensures (marked_on c.args.types.now c.args.t.0 c.in-Some.at c.base_of-next.result c.args.flags.items c.loop-next.flags.items is so)
