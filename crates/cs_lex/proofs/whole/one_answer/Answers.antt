use Rattle.cs_lex.proofs.OneAnswer.{answers_once}
use Rattle.cs_lex.proofs.whole.one_answer.Goals as goal

pub returns : goal.returns
returns c = answers_once
