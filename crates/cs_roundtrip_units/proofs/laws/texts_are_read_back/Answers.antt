use Rattle.cs_roundtrip_units.proofs.Whole.{texts_back}
use Rattle.cs_roundtrip_units.proofs.laws.texts_are_read_back.Goals as goal

pub returns : goal.returns
returns c = texts_back
