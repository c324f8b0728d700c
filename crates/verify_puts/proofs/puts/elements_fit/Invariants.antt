use Rattle.std.proofs.Common.{ℕ, ◌<◌, slice_get}
use Rattle.std.specs.Option.{option_copied}
use Rattle.verify_puts.specs.Fits.{FitsThere, element_at}
use Rattle.verify_puts.proofs.puts.elements_fit.Given as goal

abbrev pub invariant-loop-number : goal.invariant-loop-number
invariant-loop-number l = (k : ℕ) → k < l.number → FitsThere l.setting l.fit (element_at (slice_get l.set k)) (option_copied l.slot)
