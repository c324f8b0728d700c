use Rattle.verify_frames.proofs.Among.{over, denied_next, kept}
use Rattle.verify_frames.proofs.border.keeps_border.Goals as goal

pub returns-then-not-stands_over_jump-clause-no : goal.returns-then-not-stands_over_jump-clause-no
returns-then-not-stands_over_jump-clause-no c = λ k. c.if-not-stands_over_jump.ensures.no (over c.args.setting.now c.args.spot c.args.row.now c.args.frame.now c.below-rest.result.now c.taken.result c.taken.ensures c.below-rest.ensures k)

pub returns-clause-no : goal.returns-clause-no
returns-clause-no c = denied_next c.args.setting.now c.args.spot c.args.row.now c.args.frame.now c.below-rest.result.now c.taken.result c.taken.ensures c.below-rest.ensures c.leaves_no_code.result c.leaves_no_code.ensures.no

pub returns-clause-yes : goal.returns-clause-yes
returns-clause-yes c = kept c.args.setting.now c.args.spot c.args.row.now c.args.frame.now c.below-rest.result.now c.taken.result c.taken.ensures c.below-rest.ensures c.leaves_no_code.result c.if-not-stands_at_aim.ensures.yes c.if-not-stands_over_jump.ensures.yes c.leaves_no_code.ensures.yes
