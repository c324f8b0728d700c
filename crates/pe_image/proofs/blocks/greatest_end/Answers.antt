use Rattle.std.proofs.Common.{rules, leb, arith}
use Rattle.std.proofs.lemmas.List.Sorted.{IsPartitionPoint-from_clause, IsPartitionedBy-leb}
use Rattle.pe_image.specs.declared.blocks.Reach.{Reach}
use Rattle.pe_image.proofs.Reaches.{last_reaches, no_reach}
use Rattle.pe_image.proofs.blocks.greatest_end.Goals as goal

pub returns-then-begun-eq0 : goal.returns-then-begun-eq0
returns-then-begun-eq0 c s covers begun =
    let point = IsPartitionPoint-from_clause (λ (r : Reach). leb r.address c.args.rva) _ _ c.partition_point-begun.ensures.partitioned (IsPartitionedBy-leb (λ (r : Reach). r.address) _ c.args.rva c.requires) (λ a r q k. search rules) in
    let last = last_reaches c.args.block.now c.args.rva c.partition_point-begun.result no_reach s c.partition_point-begun.ensures.bound point covers begun in
    absurd (omega (arith, last.0))

pub returns : goal.returns
returns c s covers begun =
    let point = IsPartitionPoint-from_clause (λ (r : Reach). leb r.address c.args.rva) _ _ c.partition_point-begun.ensures.partitioned (IsPartitionedBy-leb (λ (r : Reach). r.address) _ c.args.rva c.requires) (λ a r q k. search rules) in
    (last_reaches c.args.block.now c.args.rva c.partition_point-begun.result no_reach s c.partition_point-begun.ensures.bound point covers begun).1
