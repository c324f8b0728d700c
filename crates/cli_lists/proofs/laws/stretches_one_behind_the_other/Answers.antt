use Rattle.cli_lists.proofs.Stretches.{one_owner, in_order}
use Rattle.cli_lists.proofs.laws.stretches_one_behind_the_other.Goals as goal

pub returns-clause-one_owner : goal.returns-clause-one_owner
returns-clause-one_owner c = one_owner

pub returns-clause-in_order : goal.returns-clause-in_order
returns-clause-in_order c = in_order
