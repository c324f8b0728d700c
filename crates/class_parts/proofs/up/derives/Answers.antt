use Rattle.class_parts.proofs.Climb.{climbed, one_base, lower_base, is_reached, is_apart, is_same}
use Rattle.class_parts.proofs.up.derives.Goals as goal

pub loop-above-smaller : goal.loop-above-smaller
loop-above-smaller c = lower_base c.args.types.now c.args.order.now c.loop-above.at.0 c.in-Some.base.0 c.requires c.in-Some.ensures.some

pub loop-above-preserved : goal.loop-above-preserved
loop-above-preserved c =
    climbed _ (one_base c.args.types.now) _ c.loop-above.at.0 c.in-Some.base.0 _ c.loop-above.invariant c.in-Some.ensures.some (is_apart _ _ c.loop-above-test.ensures)

pub returns-clause-yes : goal.returns-clause-yes
returns-clause-yes c = λ t. is_reached _ _ c.loop-above.at.0 _ c.loop-above.invariant (is_same _ _ c.loop-above-test.ensures)
