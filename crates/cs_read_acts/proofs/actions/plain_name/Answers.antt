use Rattle.cs_read_acts.proofs.Names.{plain_taken}
use Rattle.cs_read_acts.proofs.actions.plain_name.Goals as goal

pub returns-clause-name : goal.returns-clause-name
returns-clause-name c = plain_taken c.args.tokens.now c.in_ok-token.token c.take_one.new.tokens c.in_ok-token.ensures
