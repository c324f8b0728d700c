use Rattle.std.proofs.Common.{Ok, ap, arith}
use Rattle.dc_causes.specs.Step.{Test, go}
use Rattle.dc_causes.proofs.Order.{passed}
use Rattle.verify_rules.specs.declared.rule.Rule.{Rule}
use Rattle.verify_rules.specs.declared.rule.Rule.TheVariants.{Kind}
use Rattle.verify_rules.specs.Gap.{IsOfThis}
use Rattle.verify_rules.specs.Rules.{Keeps, rules}
use Rattle.verify_accepts.proofs.Decided.{told}
use Rattle.verify_accepts.proofs.order.behind.Goals as goal

pub leaves-requires-clause-taken : goal.leaves-requires-clause-taken
leaves-requires-clause-taken c =
    (passed (λ (rule : Rule). Test (Keeps c.args.setting.now c.args.spot c.args.row.now c.args.frame.now rule) rule) rules c.requires.kept 6 Kind (omega arith)).0

pub returns-in-Ok-clause-accepted : goal.returns-in-Ok-clause-accepted
returns-in-Ok-clause-accepted c =
    go tt c.requires.kept (c.is_of_this-of_this.result, told (IsOfThis c.args.setting.now c.args.spot) c.is_of_this-of_this.result c.is_of_this-of_this.ensures.yes c.is_of_this-of_this.ensures.no, ap Ok c.in-Ok.ensures)
