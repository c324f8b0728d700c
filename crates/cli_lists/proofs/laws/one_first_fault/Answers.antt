use Rattle.cli_lists.proofs.Least.{one_answer, least}
use Rattle.cli_lists.proofs.laws.one_first_fault.Goals as goal

pub returns-clause-one_answer : goal.returns-clause-one_answer
returns-clause-one_answer c = one_answer

pub returns-clause-least : goal.returns-clause-least
returns-clause-least c = least
