use Rattle.cs_roundtrip_members.proofs.Whole.{members_back}
use Rattle.cs_roundtrip_members.proofs.laws.members_are_read_back.Goals as goal

pub returns : goal.returns
returns c = members_back
