use Rattle.std.proofs.Common.{ℕ, Option, None, inl, inr, subst}
use Rattle.class_keys.specs.Least.{IsLeastOf}
use Rattle.class_implemented.specs.Open.{IsMissing}
use Rattle.class_implemented.proofs.walked.with_found.Goals as goal

pub returns-in-None-clause-clean : goal.returns-in-None-clause-clean
returns-in-None-clause-clean c = λ t at m miss.
    let none : IsLeastOf (IsMissing c.args.known.now c.args.c.0) None = subst (λ (o : Option ℕ). IsLeastOf (IsMissing c.args.known.now c.args.c.0) o) c.in-None.is c.requires.found in
    elim (c.with_clean.ensures t at) [
      | inl e ↦ none m (subst (λ (n : ℕ). IsMissing c.args.known.now n m) e miss)
      | inr old ↦ c.requires.clean t old m miss
    ]
