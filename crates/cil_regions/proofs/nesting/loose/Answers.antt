use Rattle.std.proofs.Common.{ℕ, true, false, List, length, subst, ap}
use Rattle.cil_body.specs.declared.body.Clause.{Clause}
use Rattle.cil_regions.specs.Laid.{AreParents, IsLeastDisagreement}
use Rattle.cil_regions.proofs.Partner.{loose_found}
use Rattle.cil_regions.proofs.nesting.loose.Goals as goal

pub returns : goal.returns
returns c =
    let spans = c.args.spans.now in
    let nodes = c.args.nodes.now in
    let firsts = c.args.firsts.now in
    let tries = c.in_ok-tries.tries.items in
    let handlers = c.in_ok-handlers.handlers.items in
    let found = c.disagreeing.result in
    loose_found c.args.body.now spans nodes c.requires.ranges c.requires.ordered c.requires.laminar c.requires.nodes firsts tries handlers c.requires.firsts
    (subst (λ (n : ℕ). AreParents spans nodes true n tries) (ap length c.items-clauses.ensures) c.in_ok-tries.ensures)
    (subst (λ (n : ℕ). AreParents spans nodes false n handlers) (ap length c.items-clauses.ensures) c.in_ok-handlers.ensures)
    found
    (subst (λ (cs : List Clause). IsLeastDisagreement cs firsts tries handlers (length cs) found) c.items-clauses.ensures
    (subst (λ (hs : List ℕ). IsLeastDisagreement c.items-clauses.result.now firsts tries hs (length c.items-clauses.result.now) found) c.as_slice-2.ensures.value
    (subst (λ (ts : List ℕ). IsLeastDisagreement c.items-clauses.result.now firsts ts c.as_slice-2.result.now (length c.items-clauses.result.now) found) c.as_slice.ensures.value c.disagreeing.ensures)))
