use Rattle.class_slots.proofs.Flags.{flagged_more}
use Rattle.class_slots.proofs.known.virtuals_of.Goals as goal

pub loop-m-preserved : goal.loop-m-preserved
loop-m-preserved c =
    let more = flagged_more c.args.types.now c.args.members.now c.args.explicit.now c.loop-m.flags.items c.loop-m.m c.is_virtual.result c.loop-m.invariant c.is_virtual.ensures.yes c.is_virtual.ensures.no in
    rw c.in_ok-push.ensures.items more
