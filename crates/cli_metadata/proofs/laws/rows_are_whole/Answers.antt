use Rattle.cli_metadata.proofs.Ranges.{rows_are_within}
use Rattle.cli_metadata.proofs.laws.rows_are_whole.Goals as goal

pub returns : goal.returns
returns c = rows_are_within
