use Rattle.cs_read_calls.proofs.Within.{form_no_higher}
use Rattle.cs_read_calls.proofs.level.Level.form.Goals as goal

pub returns-clause-within : goal.returns-clause-within
returns-clause-within g c =
    form_no_higher c.args.self.now.at c.args.part c.args.tokens.now c.read_form.new.tokens c.read_form.result c.read_form.ensures
