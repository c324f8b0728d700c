use Rattle.cs_roundtrip_texts.proofs.Whole.{texts_well}
use Rattle.cs_roundtrip_texts.proofs.laws.texts_are_written_well.Goals as goal

pub returns : goal.returns
returns c = texts_well
