use Rattle.verify_rules.specs.Gap.{makers}
use Rattle.verify_results.proofs.Left.{is_any}
use Rattle.verify_results.proofs.result.is_among.Goals as goal

pub returns : goal.returns
returns c = is_any (makers c.args.used.now) c.args.maker c.is_used_by.result c.is_used_by.ensures.yes c.is_used_by.ensures.no
