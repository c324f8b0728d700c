use Rattle.std.proofs.Common.{◌≡◌, ℕ, ◌<◌, inl, inr, refl, subst, arith}
use Rattle.std.proofs.lemmas.Bool.{cases_lt}
use Rattle.class_rows.specs.Core.{IsMissingCore}
use Rattle.class_bases.proofs.needed.core_is_there.Goals as goal

pub loop-k-preserved : goal.loop-k-preserved
loop-k-preserved c = λ n lt missing. elim (cases_lt n c.loop-k.k) [
  | inl less ↦ c.loop-k.invariant n less missing
  | inr le ↦ c.if-not-is_core_there.ensures.yes refl (subst (λ (k : ℕ). IsMissingCore c.args.types.now k) (omega (arith, lt, le)) missing)
]

pub returns-clause-there : goal.returns-clause-there
returns-clause-there c = λ n missing. let lt : n < 24 = missing.within in c.loop-k.invariant n (omega (arith, lt, c.loop-k-test.false)) missing
