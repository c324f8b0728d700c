use Rattle.class_implemented.proofs.Steps.{told_set}
use Rattle.class_implemented.proofs.walked.with_type.Goals as goal

pub returns-clause-told : goal.returns-clause-told
returns-clause-told c =
    rw c.with_least.ensures (told_set c.args.known.now c.args.progress.least.items c.args.t.0 c.found_in-found.result c.found_in-found.ensures)
