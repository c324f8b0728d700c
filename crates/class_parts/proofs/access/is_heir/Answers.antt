use Rattle.std.proofs.lemmas.Bool.{false≢true}
use Rattle.class_parts.proofs.Climb.{lower_outer}
use Rattle.class_parts.proofs.Heirs.{heir_here, heir_out, no_heir}
use Rattle.class_parts.proofs.access.is_heir.Goals as goal

pub loop-owner-smaller : goal.loop-owner-smaller
loop-owner-smaller c = lower_outer c.args.types.now c.args.orders.now.outers c.loop-owner.at.0 c.in-Some.outer.0 c.requires.outers c.in-Some.ensures.some

pub loop-owner-preserved : goal.loop-owner-preserved
loop-owner-preserved c = heir_out _ _ c.loop-owner.at.0 c.in-Some.outer.0 _ _ c.loop-owner.invariant c.in-Some.ensures.some (λ p. false≢true (c.loop-owner-test.ensures.no p))

pub returns-in_default-clause-no : goal.returns-in_default-clause-no
returns-in_default-clause-no c = λ h. absurd (no_heir _ _ c.loop-owner.at.0 _ _ c.loop-owner.invariant c.in_default.ensures.none (λ p. false≢true (c.loop-owner-test.ensures.no p)) h)

pub returns-clause-yes : goal.returns-clause-yes
returns-clause-yes c = λ t. heir_here _ _ c.loop-owner.at.0 _ _ c.loop-owner.invariant (c.loop-owner-test.ensures.yes t)
