use Rattle.std.proofs.Common.{◌≡◌, ◌+◌, map}
use Rattle.std.specs.List.{range_with_len}
use Rattle.cli_metadata.specs.declared.tables.Table.TheVariants as tables
use Rattle.cli_metadata.specs.Metadata.{row_of}
use Rattle.cli_tables.specs.Types.{type_def_of}
use Rattle.cli_lists.proofs.lists.field_cells.Given as goal

abbrev pub invariant-loop-k : goal.invariant-loop-k
invariant-loop-k l = l.cells.items ≡ map (λ k. (type_def_of (row_of l.metadata tables.TypeDef (k + 1))).fields) (range_with_len 0 l.k)
