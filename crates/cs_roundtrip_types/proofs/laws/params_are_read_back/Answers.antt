use Rattle.cs_roundtrip_types.proofs.Types.{params_back}
use Rattle.cs_roundtrip_types.proofs.laws.params_are_read_back.Goals as goal

pub returns : goal.returns
returns c = params_back
