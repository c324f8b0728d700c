use Rattle.cs_roundtrip_written.proofs.Whole.{blocks_well}
use Rattle.cs_roundtrip_written.proofs.laws.blocks_are_written_well.Goals as goal

pub returns : goal.returns
returns c = blocks_well
