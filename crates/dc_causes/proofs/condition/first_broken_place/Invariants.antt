use Rattle.std.proofs.Common.{ℕ, ◌<◌, Ok}
use Rattle.dc_causes.specs.Rows.{AtPlace}
use Rattle.dc_causes.proofs.condition.first_broken_place.Given as goal

abbrev pub invariant-loop-place : goal.invariant-loop-place
invariant-loop-place g l = (k : ℕ) → k < l.place → AtPlace g.C.Condition.Holds l.subject k l.rules (Ok tt)
