use Rattle.cli_slots.proofs.Stand.{onward_if}
use Rattle.cli_slots.proofs.walked.stepped.Goals as goal

pub returns-in-Leave-clause-at : goal.returns-in-Leave-clause-at
returns-in-Leave-clause-at c =
    onward_if c.args.known.now c.args.progress c.in-Leave.t.0 c.args.step c.in-Leave.is c.left.result c.left.ensures.at
