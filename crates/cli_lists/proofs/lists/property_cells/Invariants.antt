use Rattle.std.proofs.Common.{◌≡◌, ◌+◌, map}
use Rattle.std.specs.List.{range_with_len}
use Rattle.cli_metadata.specs.declared.tables.Table.TheVariants as tables
use Rattle.cli_metadata.specs.Metadata.{row_of}
use Rattle.cli_tables.specs.Properties.{property_map_of}
use Rattle.cli_lists.proofs.lists.property_cells.Given as goal

abbrev pub invariant-loop-k : goal.invariant-loop-k
invariant-loop-k l = l.cells.items ≡ map (λ k. (property_map_of (row_of l.metadata tables.PropertyMap (k + 1))).properties) (range_with_len 0 l.k)
