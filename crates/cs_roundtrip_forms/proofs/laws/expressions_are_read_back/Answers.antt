use Rattle.cs_roundtrip_forms.proofs.Whole.{expressions}
use Rattle.cs_roundtrip_forms.proofs.laws.expressions_are_read_back.Goals as goal

pub returns : goal.returns
returns c = expressions
