use Rattle.std.proofs.Common.{◌+◌, arith}
use Rattle.cs_productions.proofs.ExactTypes.{exact_param}
use Rattle.cs_productions.proofs.DeeperTypes.{deeper_param}
use Rattle.cs_productions.proofs.OneAnswers.{answers_once}
use Rattle.cs_productions.proofs.laws.one_param.Goals as goal

pub returns : goal.returns
returns c = λ ranks. answers_once (exact_param ranks) (exact_param (ranks + 1)) (deeper_param ranks (ranks + 1) (omega arith))
