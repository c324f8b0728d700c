use Rattle.cs_roundtrip_types.proofs.Types.{types_back}
use Rattle.cs_roundtrip_types.proofs.laws.types_are_read_back.Goals as goal

pub returns : goal.returns
returns c = types_back
