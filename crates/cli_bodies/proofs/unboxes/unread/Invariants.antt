use Rattle.cli_bodies.specs.Unboxes.{IsUnread}
use Rattle.cli_bodies.specs.Earlier.{IsLeastSoFar}
use Rattle.cli_bodies.proofs.unboxes.unread.Given as goal

abbrev pub invariant-loop-k : goal.invariant-loop-k
invariant-loop-k l = IsLeastSoFar (IsUnread l.method) l.k l.least
