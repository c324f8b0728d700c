use Rattle.cs_roundtrip_texts.proofs.Whole.{members_well}
use Rattle.cs_roundtrip_texts.proofs.laws.members_are_written_well.Goals as goal

pub returns : goal.returns
returns c = members_well
