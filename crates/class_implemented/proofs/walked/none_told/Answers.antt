use Rattle.class_implemented.proofs.Steps.{at_first}
use Rattle.class_implemented.proofs.walked.none_told.Goals as goal

pub returns : goal.returns
returns c =
    at_first c.args.known.now (record { standing = c.in_ok-standing.standing; marks = record { clean = c.in_ok-clean.clean; passed = c.in_ok-passed.passed }; least = c.in_ok-least.least })
    c.in_ok-standing.ensures c.in_ok-clean.ensures c.in_ok-passed.ensures c.in_ok-least.ensures
