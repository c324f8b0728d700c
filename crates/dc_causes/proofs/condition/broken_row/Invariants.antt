use Rattle.std.proofs.Common.{ℕ, ◌<◌}
use Rattle.dc_causes.proofs.condition.broken_row.Given as goal

abbrev pub invariant-loop-row : goal.invariant-loop-row
invariant-loop-row g l = (k : ℕ) → k < l.row → g.C.Condition.Holds l.condition l.subject k
