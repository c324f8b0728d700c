use Rattle.cs_wellformed.proofs.Levels.{rows}
use Rattle.cs_wellformed.proofs.rows.levels_are_as_meant.Goals as goal

pub returns : goal.returns
returns c = rows
