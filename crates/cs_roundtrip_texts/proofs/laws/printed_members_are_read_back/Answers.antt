use Rattle.cs_roundtrip_texts.proofs.Whole.{printed_members}
use Rattle.cs_roundtrip_texts.proofs.laws.printed_members_are_read_back.Goals as goal

pub returns : goal.returns
returns c = printed_members
