use Rattle.class_bases.proofs.Members.{MembersFitBefore}
use Rattle.class_bases.proofs.member.least_owner_of_missing.Given as goal

abbrev pub invariant-loop-row : goal.invariant-loop-row
invariant-loop-row l = MembersFitBefore l.types l.members l.row-index l.least
