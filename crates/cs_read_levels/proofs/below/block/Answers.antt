use Rattle.std.proofs.Common.{refl}
use Rattle.cs_read_levels.proofs.Lower.{block_deeper}
use Rattle.cs_read_levels.proofs.below.block.Goals as goal

pub returns : goal.returns
returns c =
    let at = c.args.at in
    rw (block_deeper at at.levels at.ranks at.blocks refl refl refl c.args.tokens.now) c.block_below.ensures
