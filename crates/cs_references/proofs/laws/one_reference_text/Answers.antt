use Rattle.cs_references.proofs.DeeperDeclarations.{has_one_reference_text}
use Rattle.cs_references.proofs.laws.one_reference_text.Goals as goal

pub returns : goal.returns
returns c = has_one_reference_text
