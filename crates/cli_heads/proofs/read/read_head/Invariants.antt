use Rattle.std.proofs.Common.{◌≡◌, Some}
use Rattle.cli_heads.specs.Head.{begun}
use Rattle.cli_heads.proofs.read.read_head.Given as goal

abbrev pub invariant-loop-k : goal.invariant-loop-k
invariant-loop-k l = begun l.maker l.k ≡ Some l.begun
