use Rattle.cs_roundtrip_written.proofs.Whole.{printed_expressions}
use Rattle.cs_roundtrip_written.proofs.laws.printed_expressions_are_read_back.Goals as goal

pub returns : goal.returns
returns c = printed_expressions
