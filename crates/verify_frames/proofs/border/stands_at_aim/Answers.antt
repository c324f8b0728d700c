use Rattle.verify_frames.proofs.Among.{denied_aim}
use Rattle.verify_frames.proofs.border.stands_at_aim.Goals as goal

pub returns-then-spot-clause-no : goal.returns-then-spot-clause-no
returns-then-spot-clause-no c = denied_aim c.args.spot c.args.frame.now c.leaves_no_fleeting.result c.if-spot.true c.leaves_no_fleeting.ensures.no
