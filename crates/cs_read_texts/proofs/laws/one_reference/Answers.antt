use Rattle.cs_read_texts.proofs.OneText.{has_one_reference}
use Rattle.cs_read_texts.proofs.laws.one_reference.Goals as goal

pub returns : goal.returns
returns c = has_one_reference
