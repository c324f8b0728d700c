use Rattle.cs_units.proofs.DeeperDeclarations.{has_one_member}
use Rattle.cs_units.proofs.laws.one_member.Goals as goal

pub returns : goal.returns
returns c = has_one_member
