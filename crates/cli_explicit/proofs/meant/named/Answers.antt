use Rattle.cli_explicit.proofs.Written.{none_referred}
use Rattle.cli_explicit.proofs.meant.named.Goals as goal

pub returns-in-None-clause-none : goal.returns-in-None-clause-none
returns-in-None-clause-none c = none_referred c.args.members.now c.args.token c.if-token-ne10.false c.in-None.ensures.none
