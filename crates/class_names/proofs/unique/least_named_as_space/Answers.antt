use Rattle.std.proofs.Common.{◌≡◌, ℕ, ◌<◌, subst, inl, inr, arith}
use Rattle.std.proofs.lemmas.Bool.{cases_lt, false≢true}
use Rattle.class_names.specs.Spaces.{HasNameOfSpace}
use Rattle.class_names.proofs.Alike.{reference_within}
use Rattle.class_names.proofs.unique.least_named_as_space.Goals as goal

pub loop-index-preserved : goal.loop-index-preserved
loop-index-preserved c = λ t lt h. elim (cases_lt t c.loop-index.index) [
  | inl less ↦ c.loop-index.invariant t less h
  | inr le ↦ false≢true (c.if-is_named_as_space.ensures.no (subst (λ (k : ℕ). HasNameOfSpace c.args.types.now k) (omega (arith, lt, le)) h))
]

pub returns : goal.returns
returns c = λ n h.
    let lt = reference_within c.args.types.now n h.reference in
    c.loop-index.invariant n (omega (arith, lt, c.loop-index-test.false)) h
