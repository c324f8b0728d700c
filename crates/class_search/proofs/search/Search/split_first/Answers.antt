use Rattle.std.proofs.Common.{◌∷◌, ◌++◌, List, ℕ, Option, ap, ◌∙◌}
use Rattle.dc_base.specs.declared.names.TypeId.{TypeId}
use Rattle.class_search.specs.Left.{chain_left, interfaces_left, last_left, steps}
use Rattle.class_search.proofs.Left.{chain_step, base_from_call}
use Rattle.class_search.proofs.search.Search.split_first.Goals as goal

pub returns-in-Some-clause-first : goal.returns-in-Some-clause-first
returns-in-Some-clause-first c =
    let s = c.args.self in
    let above_ = chain_left s.types.now (steps s.supers.now) in
    let behind = interfaces_left s.supers.now s.interfaces ++ last_left s.last in
    let up = base_from_call s.types.now c.in-Some.t.0 c.base_of-up.result c.base_of-up.ensures.some c.base_of-up.ensures.none in
    ap (λ (o : Option TypeId). above_ o ++ behind) c.in-Some.is
    ∙ ap (λ (us : List ℕ). us ++ behind) (chain_step s.types.now s.supers.now.orders.bases c.requires.orders.bases c.in-Some.t)
    ∙ ap (λ (o : Option TypeId). (c.in-Some.t.0 ∷ above_ o) ++ behind) up
