use Rattle.cs_roundtrip_written.proofs.Whole.{expressions_well}
use Rattle.cs_roundtrip_written.proofs.laws.expressions_are_written_well.Goals as goal

pub returns : goal.returns
returns c = expressions_well
