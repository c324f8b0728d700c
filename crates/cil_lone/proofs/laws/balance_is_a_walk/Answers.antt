use Rattle.cil_lone.proofs.Consequences.{code_walks}
use Rattle.cil_lone.proofs.laws.balance_is_a_walk.Goals as goal

pub returns : goal.returns
returns c = code_walks
