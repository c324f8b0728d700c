use Rattle.std.proofs.Common.{rules, sym}
use Rattle.dc_causes.specs.Step.{Test}
use Rattle.dc_causes.proofs.Rows.{fault_at, all_passed}
use Rattle.dc_causes.proofs.condition.broken_rule.Goals as goal

pub returns-then-not-holds-clause-broken : goal.returns-then-not-holds-clause-broken
returns-then-not-holds-clause-broken g c =
    fault_at (λ r. Test (g.C.Condition.Holds r c.args.subject.now c.args.place) (r, c.args.place)) c.args.rules.now c.loop-rule.rule-index c.rule-item.result _ (search rules) (sym c.rule-item.is) c.loop-rule.invariant (search rules)

pub returns-clause-met : goal.returns-clause-met
returns-clause-met g c =
    all_passed _ c.args.rules.now c.loop-rule.rule-index (search rules) c.loop-rule.invariant
