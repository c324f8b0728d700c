use Rattle.std.proofs.Common.{rules, leb}
use Rattle.std.proofs.lemmas.List.Sorted.{IsPartitionPoint-from_clause, IsPartitionedBy-leb}
use Rattle.cil_regions.specs.declared.region.Region.{Region}
use Rattle.cil_regions.proofs.Handling.{begun_from}
use Rattle.cil_regions.proofs.rethrow.begun.Goals as goal

pub returns : goal.returns
returns c =
    begun_from c.args.nodes.now c.args.place c.partition_point.result c.partition_point.ensures.bound
    (IsPartitionPoint-from_clause (λ (r : Region). leb r.from c.args.place) _ _ c.partition_point.ensures.partitioned (IsPartitionedBy-leb (λ (r : Region). r.from) _ c.args.place c.requires) (λ a r q k. search rules))
