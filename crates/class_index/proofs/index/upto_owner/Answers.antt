use Rattle.std.proofs.Common.{leb, rules}
use Rattle.std.proofs.lemmas.List.Sorted.{IsPartitionPoint-from_clause, IsPartitionedBy-leb}
use Rattle.class_index.specs.Order.{owner_place}
use Rattle.class_index.proofs.Order.{owner_rises, place_of_point, is_le_place}
use Rattle.class_index.proofs.index.upto_owner.Goals as goal

pub returns : goal.returns
returns c =
    let place = owner_place c.args.members.now c.args.owner.0 in
    let parted = IsPartitionedBy-leb place _ 1 (owner_rises c.args.members.now c.args.order.now c.args.owner.0 c.requires) in
    let point = IsPartitionPoint-from_clause (λ n. leb (place n) 1) _ _ c.partition_point.ensures.partitioned parted (λ a r q k. search (rules, is_le_place)) in
    place_of_point place 1 c.args.order.now c.partition_point.result c.partition_point.ensures.bound point
