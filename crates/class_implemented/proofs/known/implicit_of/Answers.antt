use Rattle.class_implemented.proofs.Flags.{flagged_more}
use Rattle.class_implemented.proofs.known.implicit_of.Goals as goal

pub loop-m-preserved : goal.loop-m-preserved
loop-m-preserved c =
    let more = flagged_more c.args.members.now c.loop-m.flags.items c.loop-m.m c.is_implicit_at.result c.loop-m.invariant c.is_implicit_at.ensures.yes c.is_implicit_at.ensures.no in
    rw c.in_ok-push.ensures.items more
