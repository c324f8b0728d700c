use Rattle.cs_roundtrip_statements.proofs.Whole.{text_blocks_back}
use Rattle.cs_roundtrip_statements.proofs.laws.blocks_of_texts_are_read_back.Goals as goal

pub returns : goal.returns
returns c = text_blocks_back
