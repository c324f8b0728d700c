use Rattle.std.proofs.Common.{ℕ, get_or, below_more, sym, ◌∙◌, subst, arith}
use Rattle.std.proofs.lemmas.List.{get_or_default}
use Rattle.verify_spots.specs.Spots.{HasRegion, Crosses}
use Rattle.verify_spots.proofs.jump.crosses_to_some.Goals as goal

pub loop-to-preserved : goal.loop-to-preserved
loop-to-preserved c =
    below_more (λ k. HasRegion c.args.regions.now.body.now (Crosses c.args.regions.now.body.now c.args.number (get_or c.args.aims.now k 0)) → ⊥) c.loop-to.to-index c.loop-to.invariant c.if-has_region.ensures.no

pub returns-clause-no : goal.returns-clause-no
returns-clause-no c = λ some.
    let lt = some.1.1 in
    c.loop-to.invariant some.1.0 (omega (arith, lt, c.loop-to.auto.to-index-end, c.loop-to-test.false))
    (subst (λ (j : ℕ). HasRegion c.args.regions.now.body.now (Crosses c.args.regions.now.body.now c.args.number j)) (sym (get_or_default c.args.aims.now some.1.0 0 some.0 lt ∙ some.1.2)) some.2)
