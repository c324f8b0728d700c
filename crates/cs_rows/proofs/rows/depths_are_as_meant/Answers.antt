use Rattle.cs_rows.proofs.Worked.{depths}
use Rattle.cs_rows.proofs.rows.depths_are_as_meant.Goals as goal

pub returns : goal.returns
returns c = depths
