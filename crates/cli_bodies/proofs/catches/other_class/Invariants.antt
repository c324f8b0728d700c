use Rattle.cli_bodies.specs.Catches.{IsOtherClass}
use Rattle.cli_bodies.specs.Earlier.{IsLeastSoFar}
use Rattle.cli_bodies.proofs.catches.other_class.Given as goal

abbrev pub invariant-loop-k : goal.invariant-loop-k
invariant-loop-k l = IsLeastSoFar (IsOtherClass l.method) l.k l.least
