use Rattle.cs_rows.proofs.Worked.{casts}
use Rattle.cs_rows.proofs.rows.casts_are_as_meant.Goals as goal

pub returns : goal.returns
returns c = casts
