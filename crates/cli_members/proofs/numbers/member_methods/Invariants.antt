use Rattle.std.proofs.Common.{◌+◌}
use Rattle.cli_members.specs.Members.{IsMemberMethod, AreThose}
use Rattle.cli_members.proofs.Those.{IsSoFar}
use Rattle.cli_members.proofs.numbers.member_methods.Given as goal

abbrev pub invariant-loop-row : goal.invariant-loop-row
invariant-loop-row l = AreThose (IsSoFar (IsMemberMethod l.metadata) (l.n + 1) l.row) l.found.items

abbrev pub invariant-loop-n : goal.invariant-loop-n
invariant-loop-n l = AreThose (IsSoFar (IsMemberMethod l.metadata) (l.n + 1) 0) l.found.items
