use Rattle.std.proofs.Common.{◌+◌}
use Rattle.cli_members.specs.Members.{IsMemberField, AreThose}
use Rattle.cli_members.proofs.Those.{IsSoFar}
use Rattle.cli_members.proofs.numbers.member_fields.Given as goal

abbrev pub invariant-loop-row : goal.invariant-loop-row
invariant-loop-row l = AreThose (IsSoFar (IsMemberField l.metadata l.own) (l.n + 1) l.row) l.found.items

abbrev pub invariant-loop-n : goal.invariant-loop-n
invariant-loop-n l = AreThose (IsSoFar (IsMemberField l.metadata l.own) (l.n + 1) 0) l.found.items
