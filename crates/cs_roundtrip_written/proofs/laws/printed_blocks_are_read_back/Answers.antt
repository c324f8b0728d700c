use Rattle.cs_roundtrip_written.proofs.Whole.{printed_blocks}
use Rattle.cs_roundtrip_written.proofs.laws.printed_blocks_are_read_back.Goals as goal

pub returns : goal.returns
returns c = printed_blocks
