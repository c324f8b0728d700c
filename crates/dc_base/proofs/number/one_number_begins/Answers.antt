use Rattle.dc_base.proofs.Spelling.{begins_unique}
use Rattle.dc_base.proofs.number.one_number_begins.Goals as goal

pub returns : goal.returns
returns c = begins_unique
