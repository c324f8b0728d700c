use Rattle.std.proofs.Common.{All, take}
use Rattle.dc_causes.proofs.condition.broken_rule.Given as goal

abbrev pub invariant-loop-rule : goal.invariant-loop-rule
invariant-loop-rule g l = All (λ c. g.C.Condition.Holds c l.subject l.place) (take l.rule-index l.rules)
