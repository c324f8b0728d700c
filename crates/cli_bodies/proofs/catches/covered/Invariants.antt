use Rattle.cli_bodies.specs.Catches.{IsCovered}
use Rattle.cli_bodies.specs.Earlier.{IsLeastSoFar}
use Rattle.cli_bodies.proofs.catches.covered.Given as goal

abbrev pub invariant-loop-k : goal.invariant-loop-k
invariant-loop-k l = IsLeastSoFar (IsCovered l.method) l.k l.least
