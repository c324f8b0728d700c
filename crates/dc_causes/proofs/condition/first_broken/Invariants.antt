use Rattle.std.proofs.Common.{All, take, Ok}
use Rattle.dc_causes.specs.Rows.{OfRow}
use Rattle.dc_causes.proofs.condition.first_broken.Given as goal

abbrev pub invariant-loop-condition : goal.invariant-loop-condition
invariant-loop-condition g l =
    All (λ c. OfRow g.C.Condition.rows g.C.Condition.Holds l.subject c (Ok tt)) (take l.condition-index l.conditions)
