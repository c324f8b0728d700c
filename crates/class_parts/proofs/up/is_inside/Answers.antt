use Rattle.class_parts.proofs.Climb.{climbed, one_outer, lower_outer, is_reached, is_apart, is_same}
use Rattle.class_parts.proofs.up.is_inside.Goals as goal

pub loop-round-smaller : goal.loop-round-smaller
loop-round-smaller c = lower_outer c.args.types.now c.args.order.now c.loop-round.at.0 c.in-Some.outer.0 c.requires c.in-Some.ensures.some

pub loop-round-preserved : goal.loop-round-preserved
loop-round-preserved c =
    climbed _ (one_outer c.args.types.now) _ c.loop-round.at.0 c.in-Some.outer.0 _ c.loop-round.invariant c.in-Some.ensures.some (is_apart _ _ c.loop-round-test.ensures)

pub returns-clause-yes : goal.returns-clause-yes
returns-clause-yes c = λ t. is_reached _ _ c.loop-round.at.0 _ c.loop-round.invariant (is_same _ _ c.loop-round-test.ensures)
