use Rattle.cs_read_primaries.proofs.Pairs.{same_blocks}
use Rattle.cs_read_primaries.proofs.primaries.blocks_here.Goals as goal

pub returns : goal.returns
returns g c = same_blocks c.args.level.now.at
