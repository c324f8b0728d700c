use Rattle.cli_members.proofs.Accessors.{AreRolesBehind}
use Rattle.cli_members.proofs.roles.roles_of.Given as goal

abbrev pub invariant-loop-k : goal.invariant-loop-k
invariant-loop-k l = AreRolesBehind l.metadata l.k l.roles.items
