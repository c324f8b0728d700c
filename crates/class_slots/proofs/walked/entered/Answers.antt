use Rattle.class_slots.proofs.Stand.{above_at, within_at, fresh_at, at_entered}
use Rattle.class_slots.proofs.walked.entered.Goals as goal

pub with_slots_of-slots-requires-clause-above : goal.with_slots_of-slots-requires-clause-above
with_slots_of-slots-requires-clause-above c =
    above_at c.args.known.now c.requires.known c.args.progress c.requires.at.0 c.args.t.0 c.requires.at.1 c.requires.at.2

pub opened-requires-clause-within : goal.opened-requires-clause-within
opened-requires-clause-within c = within_at c.args.known.now c.requires.known c.of_owner-own.result.now c.args.t.0 c.of_owner-own.ensures.exact

pub opened-requires-clause-fresh : goal.opened-requires-clause-fresh
opened-requires-clause-fresh c =
    fresh_at c.args.known.now c.requires.known c.args.progress.stacks c.requires.at.0 c.of_owner-own.result.now c.args.t.0 c.requires.at.1.stacks c.requires.at.2 c.of_owner-own.ensures.exact

pub returns-clause-at : goal.returns-clause-at
returns-clause-at c = λ path at below.
    at_entered c.args.known.now c.requires.known c.args.progress (record { stacks = c.in_ok-stacks.stacks; slots = c.with_slots_of-slots.result }) path c.of_owner-own.result.now c.args.t.0 at below
    c.of_owner-own.ensures.exact c.in_ok-stacks.ensures.stacked c.in_ok-stacks.ensures.more c.with_slots_of-slots.ensures
