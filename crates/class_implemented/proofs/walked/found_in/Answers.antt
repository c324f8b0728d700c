use Rattle.std.proofs.Common.{ℕ, Bool, Option, List, sym, subst}
use Rattle.class_implemented.specs.Open.{AreClean, ArePassed}
use Rattle.class_implemented.proofs.walked.found_in.Goals as goal

pub missing-requires-clause-clean : goal.missing-requires-clause-clean
missing-requires-clause-clean c = subst (λ (marks : List Bool). AreClean c.args.known.now marks) (sym c.as_slice-clean.ensures.value) c.requires.clean

pub missing-requires-clause-passed : goal.missing-requires-clause-passed
missing-requires-clause-passed c = subst (λ (marks : List (Option ℕ)). ArePassed c.args.known.now marks) (sym c.as_slice-passed.ensures.value) c.requires.passed
