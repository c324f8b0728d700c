use Rattle.cs_roundtrip_statements.proofs.Whole.{blocks_back}
use Rattle.cs_roundtrip_statements.proofs.laws.blocks_are_read_back.Goals as goal

pub returns : goal.returns
returns c = blocks_back
