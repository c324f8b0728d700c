use Rattle.cs_read_calls.proofs.Within.{lead_no_higher}
use Rattle.cs_read_calls.proofs.level.Level.lead.Goals as goal

pub returns-clause-within : goal.returns-clause-within
returns-clause-within g c =
    lead_no_higher c.args.self.now.at c.args.tokens.now c.read_lead.new.tokens c.read_lead.result c.read_lead.ensures
