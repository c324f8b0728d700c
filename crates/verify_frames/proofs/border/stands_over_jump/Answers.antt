use Rattle.verify_frames.proofs.Among.{denied_over}
use Rattle.verify_frames.proofs.border.stands_over_jump.Goals as goal

pub returns-then-jumps-clause-no : goal.returns-then-jumps-clause-no
returns-then-jumps-clause-no c = denied_over c.args.row.now c.args.rest.now c.leaves_no_fleeting.result c.if-jumps.ensures.yes c.leaves_no_fleeting.ensures.no
