use Rattle.cs_read_actions.proofs.Levels.{same_blocks}
use Rattle.cs_read_actions.proofs.leaves.blocks.Goals as goal

pub returns : goal.returns
returns g c = same_blocks c.args.level.now.at
