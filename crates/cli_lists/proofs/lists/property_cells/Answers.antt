use Rattle.std.proofs.Common.{ℕ, ◌+◌, arith, rules}
use Rattle.std.proofs.lemmas.List.FromFn.{map-range_with_len_more}
use Rattle.cli_metadata.specs.declared.tables.Table.TheVariants as tables
use Rattle.cli_metadata.specs.Metadata.{row_of}
use Rattle.cli_tables.specs.Properties.{property_map_of}
use Rattle.cli_lists.proofs.lists.property_cells.Goals as goal

pub loop-k-preserved : goal.loop-k-preserved
loop-k-preserved c = rw (map-range_with_len_more (λ (k : ℕ). (property_map_of (row_of c.args.metadata.now tables.PropertyMap (k + 1))).properties) 0 c.loop-k.k c.loop-k.k (omega arith)) (search rules)
