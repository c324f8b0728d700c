use Rattle.std.proofs.Common.{◌-◌, Ok, Err, length, take, drop}
use Rattle.std.proofs.lemmas.Result.{IfOk-weaker, IfErr-weaker}
use Rattle.dc_causes.specs.Step.{Test}
use Rattle.dc_causes.specs.Causes.{InOrder}
use Rattle.verify_rules.specs.declared.rule.Rule.TheVariants.{Underflow}
use Rattle.verify_rules.specs.Rules.{Keeps}
use Rattle.verify_accepts.proofs.InOrder.{more, first}
use Rattle.verify_accepts.proofs.order.+kept.Goals as goal

pub returns-then-keeps-clause-kept : goal.returns-then-keeps-clause-kept
returns-then-keeps-clause-kept t c =
    IfOk-weaker c.kept.result
    (λ kept. InOrder (λ rule. Test (Keeps c.args.setting.now c.args.spot c.args.row.now c.args.frame.now rule) rule) (take (length c.args.asked.now - 1) (drop 1 c.args.asked.now)) (Ok kept))
    (λ kept. InOrder (λ rule. Test (Keeps c.args.setting.now c.args.spot c.args.row.now c.args.frame.now rule) rule) c.args.asked.now (Ok kept))
    (λ kept rest. more (Keeps c.args.setting.now c.args.spot c.args.row.now c.args.frame.now) Underflow c.args.asked.now (Ok kept) c.in-len1-up.len_at_least c.if-keeps.ensures.yes rest)
    c.kept.ensures.kept

pub returns-then-keeps-clause-broken : goal.returns-then-keeps-clause-broken
returns-then-keeps-clause-broken t c =
    IfErr-weaker c.kept.result
    (λ broken. InOrder (λ rule. Test (Keeps c.args.setting.now c.args.spot c.args.row.now c.args.frame.now rule) rule) (take (length c.args.asked.now - 1) (drop 1 c.args.asked.now)) (Err broken))
    (λ broken. InOrder (λ rule. Test (Keeps c.args.setting.now c.args.spot c.args.row.now c.args.frame.now rule) rule) c.args.asked.now (Err broken))
    (λ broken rest. more (Keeps c.args.setting.now c.args.spot c.args.row.now c.args.frame.now) Underflow c.args.asked.now (Err broken) c.in-len1-up.len_at_least c.if-keeps.ensures.yes rest)
    c.kept.ensures.broken

pub returns-else-keeps-clause-broken : goal.returns-else-keeps-clause-broken
returns-else-keeps-clause-broken t c =
    first (Keeps c.args.setting.now c.args.spot c.args.row.now c.args.frame.now) Underflow c.args.asked.now c.in-len1-up.len_at_least c.if-keeps.ensures.no
