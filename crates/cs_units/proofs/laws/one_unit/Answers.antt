use Rattle.cs_units.proofs.DeeperDeclarations.{has_one_unit}
use Rattle.cs_units.proofs.laws.one_unit.Goals as goal

pub returns : goal.returns
returns c = has_one_unit
