use Rattle.std.proofs.Common.{ℕ, ◌<◌, ◌-◌, length, slice_get}
use Rattle.verify_rules.specs.Look.{ty_of_param}
use Rattle.verify_puts.specs.Fits.{FitsThere}
use Rattle.verify_puts.proofs.puts.arguments_fit.Given as goal

abbrev pub invariant-loop-number : goal.invariant-loop-number
invariant-loop-number l = (k : ℕ) → k < l.number → FitsThere l.setting l.fit (ty_of_param (slice_get l.params k)) (slice_get l.frame (length l.params - 1 - k))
