use Rattle.cs_roundtrip_texts.proofs.Whole.{printed_texts}
use Rattle.cs_roundtrip_texts.proofs.laws.printed_texts_are_read_back.Goals as goal

pub returns : goal.returns
returns c = printed_texts
