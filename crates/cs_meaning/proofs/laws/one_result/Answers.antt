use Rattle.cs_meaning.proofs.Consequences.{returns_one_int}
use Rattle.cs_meaning.proofs.laws.one_result.Goals as goal

pub returns : goal.returns
returns c = returns_one_int
