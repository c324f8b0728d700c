use Rattle.cli_profile.specs.Methods.{IsDelegate, IsOfDelegate}
use Rattle.cli_profile.proofs.Items.{not_of_delegate}
use Rattle.cli_profile.proofs.Answered.{on_false, told_false}
use Rattle.cli_profile.proofs.rows.Rows.is_of_delegate.Goals as goal

pub returns-in-Some-clause-no : goal.returns-in-Some-clause-no
returns-in-Some-clause-no c = rw (← c.self.view_is) (on_false (IsOfDelegate c.self.inside.metadata.now c.args.n) _ (λ e.
    not_of_delegate c.self.inside.metadata.now c.self.inside.lists.now c.in-Some.owner c.args.n c.stretches_one_behind_the_other.ensures.one_owner c.self.invariant.same c.self.invariant.starts c.in-Some.ensures.some
    (told_false (IsDelegate c.self.inside.metadata.now c.in-Some.owner → ⊥) c.is_delegate.result c.is_delegate.ensures.no e)))
