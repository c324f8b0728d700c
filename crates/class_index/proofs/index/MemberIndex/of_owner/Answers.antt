use Rattle.std.proofs.Common.{ℕ, List, sym, subst}
use Rattle.class_index.specs.Order.{IsIndex}
use Rattle.class_index.proofs.Order.{owned_stretch, owned_apart}
use Rattle.class_index.proofs.index.MemberIndex.of_owner.Goals as goal

pub returns-clause-apart : goal.returns-clause-apart
returns-clause-apart c =
    let index = subst (λ (order : List ℕ). IsIndex c.args.members.now order) (sym c.items-order.ensures) c.requires in
    owned_apart c.args.members.now c.items-order.result.now c.args.owner.0 index c.before_owner-start.result c.upto_owner-end.result c.before_owner-start.ensures c.upto_owner-end.ensures

pub returns-clause-exact : goal.returns-clause-exact
returns-clause-exact c =
    let index = subst (λ (order : List ℕ). IsIndex c.args.members.now order) (sym c.items-order.ensures) c.requires in
    owned_stretch c.args.members.now c.items-order.result.now c.args.owner.0 index c.before_owner-start.result c.upto_owner-end.result c.before_owner-start.ensures c.upto_owner-end.ensures
