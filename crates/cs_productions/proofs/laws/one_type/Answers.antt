use Rattle.std.proofs.Common.{◌+◌, arith}
use Rattle.cs_productions.proofs.ExactTypes.{exact_ty}
use Rattle.cs_productions.proofs.DeeperTypes.{deeper_ty}
use Rattle.cs_productions.proofs.OneAnswers.{answers_once}
use Rattle.cs_productions.proofs.laws.one_type.Goals as goal

pub returns : goal.returns
returns c = λ ranks. answers_once (exact_ty ranks) (exact_ty (ranks + 1)) (deeper_ty ranks (ranks + 1) (omega arith))
