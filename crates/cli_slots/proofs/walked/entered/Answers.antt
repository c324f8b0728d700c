use Rattle.std.proofs.Common.{Bool, List, subst}
use Rattle.class_open.specs.Stacks.{AreMore}
use Rattle.cli_slots.proofs.Stand.{within_at, fresh_at, at_entered}
use Rattle.cli_slots.proofs.walked.entered.Goals as goal

pub opened-requires-clause-within : goal.opened-requires-clause-within
opened-requires-clause-within c = within_at c.args.known.now c.requires.known c.of_owner-own.result.now c.args.t.0 c.of_owner-own.ensures.exact

pub opened-requires-clause-fresh : goal.opened-requires-clause-fresh
opened-requires-clause-fresh c =
    fresh_at c.args.known.now c.requires.known c.args.progress c.requires.at.0 c.of_owner-own.result.now c.args.t.0 c.requires.at.1 c.requires.at.2 c.of_owner-own.ensures.exact

pub returns-clause-at : goal.returns-clause-at
returns-clause-at c = λ path at below.
    let trail = c.in_ok-stacks.stacks.trail in
    let more : AreMore c.with_told_of-told.result.picks.items c.of_owner-own.result.now c.args.progress.stacks.trail trail =
    subst (λ (picks : List Bool). AreMore picks c.of_owner-own.result.now c.args.progress.stacks.trail trail) c.as_slice.ensures.value c.in_ok-stacks.ensures.more in
    at_entered c.args.known.now c.requires.known c.args.progress (record { stacks = c.in_ok-stacks.stacks; told = c.with_told_of-told.result }) path c.of_owner-own.result.now c.args.t.0 at below
    c.of_owner-own.ensures.exact c.in_ok-stacks.ensures.stacked more c.with_told_of-told.ensures
