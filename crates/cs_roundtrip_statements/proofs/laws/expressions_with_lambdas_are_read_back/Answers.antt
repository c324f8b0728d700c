use Rattle.cs_roundtrip_statements.proofs.Whole.{expressions}
use Rattle.cs_roundtrip_statements.proofs.laws.expressions_with_lambdas_are_read_back.Goals as goal

pub returns : goal.returns
returns c = expressions
