use Rattle.cli_assembly.proofs.Found.{meant}
use Rattle.cli_assembly.proofs.meaning.tokens_mean.Goals as goal

pub returns : goal.returns
returns c = meant
