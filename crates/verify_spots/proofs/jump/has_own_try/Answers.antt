use Rattle.std.proofs.Common.{get_or, below_more, sym, subst, arith}
use Rattle.cil_body.specs.declared.body.Clause.{Clause}
use Rattle.verify_spots.specs.Questions.{IsOwnTry}
use Rattle.verify_spots.proofs.Nodes.{none_here}
use Rattle.verify_spots.proofs.jump.has_own_try.Goals as goal

pub loop-number-preserved : goal.loop-number-preserved
loop-number-preserved c =
    below_more (λ k. (d : Clause) → IsOwnTry c.args.regions.now.body.now c.args.clauses.now k (get_or c.args.clauses.now k d) c.args.from c.args.to → ⊥) c.loop-number.number c.loop-number.invariant
    (none_here (λ (clause : Clause). IsOwnTry c.args.regions.now.body.now c.args.clauses.now c.loop-number.number clause c.args.from c.args.to) c.args.clauses.now c.loop-number.number _ (omega (arith, c.loop-number-test.true)) c.if-is_own_try.ensures.no)

pub returns-clause-no : goal.returns-clause-no
returns-clause-no c = λ has.
    let lt = has.2.0 in
    c.loop-number.invariant has.0 (omega (arith, lt, c.loop-number-test.false)) has.1
    (subst (λ (clause : Clause). IsOwnTry c.args.regions.now.body.now c.args.clauses.now has.0 clause c.args.from c.args.to) (sym has.2.1) (has.3, has.4))
