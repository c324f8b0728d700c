use Rattle.std.proofs.Common.{◌+◌, arith}
use Rattle.cs_productions.specs.declared.values.Part.TheVariants.{Whole}
use Rattle.cs_productions.proofs.DeeperLevels.{deeper_forms_at}
use Rattle.cs_productions.proofs.OneAnswers.{answers_once}
use Rattle.cs_statements.proofs.ExactActions.{exact_expression}
use Rattle.cs_statements.proofs.ExactStatements.{exact_inside}
use Rattle.cs_statements.proofs.DeeperStatements.{widens_inside}
use Rattle.cs_statements.proofs.laws.one_expression.Goals as goal

pub returns : goal.returns
returns c = λ levels ranks blocks some.
    answers_once (exact_expression levels (exact_inside levels ranks blocks)) (exact_expression (levels + 2) (exact_inside (levels + 2) (ranks + 1) (blocks + 1)))
    (deeper_forms_at Whole (widens_inside levels (levels + 2) ranks (ranks + 1) blocks (blocks + 1) (omega arith) some (omega arith) (omega arith)))
