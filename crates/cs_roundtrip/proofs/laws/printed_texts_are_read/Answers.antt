use Rattle.cs_roundtrip.proofs.Answered.{printed_read}
use Rattle.cs_roundtrip.proofs.laws.printed_texts_are_read.Goals as goal

pub returns : goal.returns
returns c = printed_read
