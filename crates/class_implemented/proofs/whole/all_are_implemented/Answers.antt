use Rattle.std.proofs.Common.{ℕ, Option, List, inl, inr, refl, sym, subst, arith}
use Rattle.std.proofs.lemmas.Bool.{cases_lt}
use Rattle.std.proofs.lemmas.Option.{slice_get_within}
use Rattle.class_implemented.specs.Open.{IsMissing}
use Rattle.class_implemented.specs.Progress.{AreLeast}
use Rattle.class_implemented.proofs.whole.all_are_implemented.Goals as goal

pub missing_at-requires-clause-least : goal.missing_at-requires-clause-least
missing_at-requires-clause-least c = subst (λ (least : List (Option ℕ)). AreLeast c.args.known.now least) (sym c.as_slice-least.ensures.value) c.in_ok-each.ensures

pub overflow_cast-result-in-Some : goal.overflow_cast-result-in-Some
overflow_cast-result-in-Some c =
    let method = c.in-Some.ensures.holds.due.method in
    let lt = slice_get_within c.args.known.now.members.now c.in-Some.m method.row method.stands in
    omega (arith, lt, c.requires.known.short)

pub returns-in-Some-clause-unimplemented : goal.returns-in-Some-clause-unimplemented
returns-in-Some-clause-unimplemented c = (c.loop-c.c, (λ k lt m miss. c.loop-c.invariant k m lt miss), (c.in-Some.m, c.in-Some.ensures, refl))

pub loop-c-preserved : goal.loop-c-preserved
loop-c-preserved c = λ k m lt miss. elim (cases_lt k c.loop-c.c) [
  | inl less ↦ c.loop-c.invariant k m less miss
  | inr le ↦ c.in_default.ensures m (subst (λ (n : ℕ). IsMissing c.args.known.now n m) (omega (arith, lt, le)) miss)
]

pub returns-clause-implemented : goal.returns-clause-implemented
returns-clause-implemented c = λ k m miss.
    let class = miss.due.class in
    let lt = slice_get_within c.args.known.now.types.now k class.row class.stands in
    c.loop-c.invariant k m (omega (arith, lt, c.loop-c-test.false)) miss
