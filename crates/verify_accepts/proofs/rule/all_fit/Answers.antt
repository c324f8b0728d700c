use Rattle.verify_puts.proofs.Parts.{parts_are_all}
use Rattle.verify_accepts.proofs.Decided.{on_true, on_false}
use Rattle.verify_accepts.proofs.rule.all_fit.Goals as goal

pub returns-clause-yes : goal.returns-clause-yes
returns-clause-yes c = on_true c.puts_fit.result (parts_are_all c.args.setting.now c.args.fit c.args.row.now c.args.frame.now).0 c.puts_fit.ensures.yes

pub returns-clause-no : goal.returns-clause-no
returns-clause-no c = on_false c.puts_fit.result (parts_are_all c.args.setting.now c.args.fit c.args.row.now c.args.frame.now).1 c.puts_fit.ensures.no
