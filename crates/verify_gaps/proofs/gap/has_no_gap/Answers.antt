use Rattle.verify_gaps.proofs.Gaps.{yes, no}
use Rattle.verify_gaps.proofs.gap.has_no_gap.Goals as goal

pub returns-clause-yes : goal.returns-clause-yes
returns-clause-yes c = yes c.args.setting.now c.args.spot c.args.row.now c.args.frame.now c.used_slots-used.result.now c.below-rest.result.now c.taken.result c.used_slots-used.ensures c.taken.ensures c.below-rest.ensures c.has_no_gap_among.result c.has_no_gap_among.ensures.yes

pub returns-clause-no : goal.returns-clause-no
returns-clause-no c = no c.args.setting.now c.args.spot c.args.row.now c.args.frame.now c.used_slots-used.result.now c.below-rest.result.now c.taken.result c.used_slots-used.ensures c.taken.ensures c.below-rest.ensures c.has_no_gap_among.result c.has_no_gap_among.ensures.no
