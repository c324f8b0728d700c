use Rattle.cli_conditions.proofs.Numbers.{tell}
use Rattle.cli_conditions.proofs.laws.one_number.Goals as goal

pub returns : goal.returns
returns c = tell
