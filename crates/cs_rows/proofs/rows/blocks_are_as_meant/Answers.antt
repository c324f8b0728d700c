use Rattle.cs_rows.proofs.Worked.{blocks}
use Rattle.cs_rows.proofs.rows.blocks_are_as_meant.Goals as goal

pub returns : goal.returns
returns c = blocks
