use Rattle.cs_rows.proofs.Worked.{operators}
use Rattle.cs_rows.proofs.rows.operators_are_as_meant.Goals as goal

pub returns : goal.returns
returns c = operators
