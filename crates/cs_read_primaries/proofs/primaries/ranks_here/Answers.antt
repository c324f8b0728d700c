use Rattle.cs_read_primaries.proofs.Pairs.{same_ranks}
use Rattle.cs_read_primaries.proofs.primaries.ranks_here.Goals as goal

pub returns : goal.returns
returns g c = same_ranks c.args.level.now.at
