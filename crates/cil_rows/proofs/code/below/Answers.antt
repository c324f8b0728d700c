use Rattle.std.proofs.Common.{rules, ltb}
use Rattle.std.proofs.lemmas.List.Sorted.{IsPartitionPoint-from_clause, IsPartitionedBy-ltb}
use Rattle.cil_rows.proofs.code.below.Goals as goal

pub returns-clause-parts : goal.returns-clause-parts
returns-clause-parts c =
    IsPartitionPoint-from_clause (λ start. ltb start c.args.place) _ _ c.partition_point.ensures.partitioned (IsPartitionedBy-ltb (λ start. start) _ c.args.place c.requires) (λ a r q k. search rules)
