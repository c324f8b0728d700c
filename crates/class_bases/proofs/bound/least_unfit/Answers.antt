use Rattle.std.proofs.Common.{◌≡◌, ℕ, ◌<◌, inl, inr, refl, subst, sym, arith}
use Rattle.std.proofs.lemmas.Bool.{cases_lt}
use Rattle.class_keys.proofs.Items.{read_item}
use Rattle.class_bases.specs.Fit.{FitsAbove}
use Rattle.class_bases.proofs.Fits.{fits_above, fits_past}
use Rattle.class_bases.proofs.bound.least_unfit.Goals as goal

pub loop-index-preserved : goal.loop-index-preserved
loop-index-preserved c = λ t lt. elim (cases_lt t c.loop-index.index) [
  | inl less ↦ c.loop-index.invariant t less
  | inr le ↦
      let e : c.loop-index.index ≡ t = omega (arith, lt, le) in
      let stands = read_item c.args.types.now c.loop-index.index c.index-types-index.result c.loop-index-test.true c.index-types-index.is in
      subst (λ (k : ℕ). FitsAbove c.args.types.now k) e (fits_above c.args.types.now c.loop-index.index c.index-types-index.result stands (c.if-not-row_fits.ensures.yes refl))
]

pub returns : goal.returns
returns c = λ t. elim (cases_lt t c.loop-index.index) [
  | inl less ↦ c.loop-index.invariant t less
  | inr le ↦ fits_past c.args.types.now t (λ lt. omega (arith, lt, le, c.loop-index-test.false))
]
