use Rattle.cs_read_members.proofs.Pairs.{same_ranks}
use Rattle.cs_read_members.proofs.parts.limit.Goals as goal

pub returns : goal.returns
returns g c = same_ranks c.args.level.now.at
