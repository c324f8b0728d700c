use Rattle.cs_read_actions.proofs.Levels.{same_ranks}
use Rattle.cs_read_actions.proofs.leaves.pairs.Goals as goal

pub returns : goal.returns
returns g c = same_ranks c.args.level.now.at
