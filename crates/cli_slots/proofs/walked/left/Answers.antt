use Rattle.std.proofs.Common.{refl}
use Rattle.cli_slots.proofs.Stand.{at_left}
use Rattle.cli_slots.proofs.walked.left.Goals as goal

pub returns-clause-at : goal.returns-clause-at
returns-clause-at c = λ path at.
    at_left c.args.known.now c.requires.known c.args.progress (record { stacks = c.in_ok-stacks.stacks; told = c.args.progress.told }) path c.args.t.0 at c.in_ok-stacks.ensures.stacked c.in_ok-stacks.ensures.less refl
