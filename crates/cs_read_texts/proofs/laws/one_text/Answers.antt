use Rattle.cs_read_texts.proofs.OneText.{has_one_text}
use Rattle.cs_read_texts.proofs.laws.one_text.Goals as goal

pub returns : goal.returns
returns c = has_one_text
