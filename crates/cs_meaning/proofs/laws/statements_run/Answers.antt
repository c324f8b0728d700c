use Rattle.cs_meaning.proofs.Consequences.{declarations_run, returns_end, bodies_return}
use Rattle.cs_meaning.proofs.laws.statements_run.Goals as goal

pub returns-clause-declarations : goal.returns-clause-declarations
returns-clause-declarations c = declarations_run

pub returns-clause-returns : goal.returns-clause-returns
returns-clause-returns c = returns_end

pub returns-clause-bodies : goal.returns-clause-bodies
returns-clause-bodies c = bodies_return
