use Rattle.std.proofs.lemmas.Bool.{false≢true}
use Rattle.class_parts.proofs.Climb.{lower_base}
use Rattle.class_assign.proofs.Up.{way_on, way_ends, near_above}
use Rattle.class_assign.proofs.supers.is_super.Goals as goal

pub loop-above-smaller : goal.loop-above-smaller
loop-above-smaller c = lower_base c.args.types.now c.args.supers.now.orders.bases c.loop-above.at.0 c.in-Some.base.0 c.requires.orders.bases c.in-Some.ensures.some

pub loop-above-preserved : goal.loop-above-preserved
loop-above-preserved c = way_on c.args.types.now c.args.t.0 c.args.above.0 c.loop-above.at.0 c.in-Some.base.0 c.loop-above.invariant (λ near. false≢true (c.loop-above-test.ensures.no near)) c.in-Some.ensures.some

pub returns-clause-yes : goal.returns-clause-yes
returns-clause-yes c = λ t. c.loop-above.invariant.to_ (near_above c.args.types.now c.loop-above.at.0 c.args.above.0 (c.loop-above-test.ensures.yes t))

pub returns-in_default-clause-no : goal.returns-in_default-clause-no
returns-in_default-clause-no c = λ s. absurd (way_ends c.args.types.now c.args.t.0 c.args.above.0 c.loop-above.at.0 c.loop-above.invariant (λ near. false≢true (c.loop-above-test.ensures.no near)) c.in_default.ensures.none s)
