use Rattle.std.proofs.Common.{ℕ, List, sym, subst}
use Rattle.class_index.specs.Order.{IsIndex}
use Rattle.class_index.proofs.Order.{exact_stretch, rising_stretch}
use Rattle.class_index.proofs.index.MemberIndex.of_name.Goals as goal

pub returns-clause-rising : goal.returns-clause-rising
returns-clause-rising c =
    let index = subst (λ (order : List ℕ). IsIndex c.args.members.now order) (sym c.items-order.ensures) c.requires in
    rising_stretch c.args.members.now c.items-order.result.now c.args.owner.0 c.args.name.now index c.before_key-start.result c.upto_key-end.result c.before_key-start.ensures c.upto_key-end.ensures

pub returns-clause-exact : goal.returns-clause-exact
returns-clause-exact c =
    let index = subst (λ (order : List ℕ). IsIndex c.args.members.now order) (sym c.items-order.ensures) c.requires in
    exact_stretch c.args.members.now c.items-order.result.now c.args.owner.0 c.args.name.now index c.before_key-start.result c.upto_key-end.result c.before_key-start.ensures c.upto_key-end.ensures
