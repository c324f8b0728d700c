use Rattle.cli_refs.proofs.Stand.{within_at, fresh_at, open_entered, at_entered}
use Rattle.cli_refs.proofs.walked.entered.Goals as goal

pub opened-requires-clause-within : goal.opened-requires-clause-within
opened-requires-clause-within c = within_at c.args.known.now c.requires.known c.of_owner-own.result.now c.args.t.0 c.of_owner-own.ensures.exact

pub opened-requires-clause-fresh : goal.opened-requires-clause-fresh
opened-requires-clause-fresh c =
    fresh_at c.args.known.now c.requires.known c.args.progress.stacks c.requires.at.0 c.of_owner-own.result.now c.args.t.0 c.requires.at.1.stacks c.requires.at.2 c.of_owner-own.ensures.exact

pub answered-found-requires-clause-open_ : goal.answered-found-requires-clause-open_
answered-found-requires-clause-open_ c = (
  c.requires.at.0,
  open_entered c.args.known.now c.requires.known c.args.progress.stacks c.in_ok-stacks.stacks c.requires.at.0 c.of_owner-own.result.now c.args.t.0 c.requires.at.1.stacks c.requires.at.2
      c.of_owner-own.ensures.exact c.in_ok-stacks.ensures.stacked c.in_ok-stacks.ensures.more,
)

pub returns-clause-at : goal.returns-clause-at
returns-clause-at c = λ path at below.
    at_entered c.args.known.now c.requires.known c.args.progress (record { stacks = c.in_ok-stacks.stacks; found = c.answered-found.result }) path c.of_owner-own.result.now c.args.t.0 at below
    c.of_owner-own.ensures.exact c.in_ok-stacks.ensures.stacked c.in_ok-stacks.ensures.more c.answered-found.ensures
