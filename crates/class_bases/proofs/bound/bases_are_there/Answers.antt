use Rattle.std.proofs.Common.{◌≡◌, ◌∙◌, sym, refl, arith, subst, Option, ℕ}
use Rattle.class_keys.specs.Least.{IsLeastOff}
use Rattle.class_keys.proofs.OfTwo.{off_of_both}
use Rattle.class_rows.specs.Bases.{BasesFit}
use Rattle.class_bases.specs.Fit.{FitsAbove, MembersFit}
use Rattle.class_bases.proofs.Fits.{all_fit}
use Rattle.class_bases.proofs.bound.bases_are_there.Goals as goal

pub returns-in-None-clause-there : goal.returns-in-None-clause-there
returns-in-None-clause-there c =
    let both = off_of_both (FitsAbove c.args.types.now) (MembersFit c.args.types.now c.args.members.now) c.least_unfit.result c.least_owner_of_missing.result c.least_unfit.ensures c.least_owner_of_missing.ensures in
    subst (λ (o : Option ℕ). IsLeastOff (BasesFit c.args.types.now c.args.members.now) o) (sym c.lesser.ensures ∙ c.in-None.is) (all_fit c.args.types.now c.args.members.now _ both)

pub returns-in-Some-clause-missing : goal.returns-in-Some-clause-missing
returns-in-Some-clause-missing c =
    let both = off_of_both (FitsAbove c.args.types.now) (MembersFit c.args.types.now c.args.members.now) c.least_unfit.result c.least_owner_of_missing.result c.least_unfit.ensures c.least_owner_of_missing.ensures in
    let first = subst (λ (o : Option ℕ). IsLeastOff (BasesFit c.args.types.now c.args.members.now) o) (sym c.lesser.ensures ∙ c.in-Some.is) (all_fit c.args.types.now c.args.members.now _ both) in
    (c.in-Some.t, first.1, (first.0, refl))
