use Rattle.std.proofs.Common.{leb, rules}
use Rattle.std.proofs.lemmas.List.Sorted.{IsPartitionPoint-from_clause, IsPartitionedBy-leb}
use Rattle.class_index.specs.Order.{key_place}
use Rattle.class_index.proofs.Order.{key_rises, place_of_point, is_le_place}
use Rattle.class_index.proofs.index.upto_key.Goals as goal

pub returns : goal.returns
returns c =
    let place = key_place c.args.members.now c.args.owner.0 c.args.name.now in
    let parted = IsPartitionedBy-leb place _ 1 (key_rises c.args.members.now c.args.order.now c.args.owner.0 c.args.name.now c.requires) in
    let point = IsPartitionPoint-from_clause (λ n. leb (place n) 1) _ _ c.partition_point.ensures.partitioned parted (λ a r q k. search (rules, is_le_place)) in
    place_of_point place 1 c.args.order.now c.partition_point.result c.partition_point.ensures.bound point
