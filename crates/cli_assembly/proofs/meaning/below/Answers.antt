use Rattle.std.proofs.Common.{rules, ltb}
use Rattle.std.proofs.lemmas.List.Sorted.{IsPartitionPoint-from_clause, IsPartitionedBy-ltb}
use Rattle.cli_assembly.specs.Meaning.{number_of}
use Rattle.cli_assembly.proofs.Found.{rising}
use Rattle.cli_assembly.proofs.meaning.below.Goals as goal

pub returns-clause-parts : goal.returns-clause-parts
returns-clause-parts c =
    IsPartitionPoint-from_clause (λ e. ltb (number_of e) c.args.token.0) _ _ c.partition_point.ensures.partitioned (IsPartitionedBy-ltb number_of _ c.args.token.0 (rising _ c.requires)) (λ a r q k. search rules)
