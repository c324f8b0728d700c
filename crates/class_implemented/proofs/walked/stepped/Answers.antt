use Rattle.class_implemented.proofs.Steps.{onward_if, entered_if}
use Rattle.class_implemented.proofs.walked.stepped.Goals as goal

pub returns-in-Leave-clause-at : goal.returns-in-Leave-clause-at
returns-in-Leave-clause-at c =
    onward_if c.args.known.now c.args.progress c.in-Leave.t.0 c.args.step c.in-Leave.is c.without_type.result c.without_type.ensures.at

pub returns-in-Enter-clause-at : goal.returns-in-Enter-clause-at
returns-in-Enter-clause-at c =
    entered_if c.args.known.now c.args.progress c.in-Enter.t.0 c.args.step c.in-Enter.is c.with_type.result c.with_type.ensures.at
