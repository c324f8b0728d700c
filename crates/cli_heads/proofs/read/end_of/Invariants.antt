use Rattle.std.proofs.Common.{◌≡◌, ℕ, ◌<◌, None}
use Rattle.cli_heads.specs.Head.{called_at}
use Rattle.cli_heads.proofs.read.end_of.Given as goal

abbrev pub invariant-loop-k : goal.invariant-loop-k
invariant-loop-k l = (j : ℕ) → j < l.k → called_at l.maker j ≡ None
