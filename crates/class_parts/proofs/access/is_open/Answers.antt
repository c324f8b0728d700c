use Rattle.std.proofs.Common.{refl}
use Rattle.class_parts.proofs.Climb.{lower_outer}
use Rattle.class_parts.proofs.Heirs.{open_out, open_top}
use Rattle.class_parts.proofs.access.is_open.Goals as goal

pub loop-outer-smaller : goal.loop-outer-smaller
loop-outer-smaller c = lower_outer c.args.types.now c.args.orders.now.outers c.loop-outer.at.0 c.in-Some.outer.0 c.requires.outers c.in-Some.ensures.some

pub loop-outer-preserved : goal.loop-outer-preserved
loop-outer-preserved c = open_out _ _ _ c.loop-outer.at.0 c.in-Some.outer.0 c.loop-outer.invariant c.in-Some.ensures.some (c.if-not-is_named_in.ensures.yes refl)

pub returns-clause-yes : goal.returns-clause-yes
returns-clause-yes c = λ t. open_top _ _ _ c.loop-outer.at.0 c.loop-outer.invariant (c.is_open_at_top.ensures.yes t)
