use Rattle.std.proofs.Common.{ℕ, ◌<◌}
use Rattle.class_implemented.specs.Open.{IsMissing}
use Rattle.class_implemented.proofs.whole.all_are_implemented.Given as goal

abbrev pub invariant-loop-c : goal.invariant-loop-c
invariant-loop-c l = (c m : ℕ) → c < l.c → IsMissing l.known c m → ⊥
