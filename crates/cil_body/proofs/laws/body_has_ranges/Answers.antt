use Rattle.cil_body.proofs.Consequences.{body_has_ranges}
use Rattle.cil_body.proofs.laws.body_has_ranges.Goals as goal

pub returns : goal.returns
returns c = body_has_ranges
