use Rattle.verify_gaps.proofs.Makers.{not_used}
use Rattle.verify_gaps.proofs.maker.is_used_by.Goals as goal

pub returns-clause-no : goal.returns-clause-no
returns-clause-no c = not_used c.args.used.now c.args.maker c.has_made.result c.has_made.ensures.no
