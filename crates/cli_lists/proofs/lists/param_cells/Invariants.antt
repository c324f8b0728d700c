use Rattle.std.proofs.Common.{◌≡◌, ◌+◌, map}
use Rattle.std.specs.List.{range_with_len}
use Rattle.cli_metadata.specs.declared.tables.Table.TheVariants as tables
use Rattle.cli_metadata.specs.Metadata.{row_of}
use Rattle.cli_tables.specs.Members.{method_def_of}
use Rattle.cli_lists.proofs.lists.param_cells.Given as goal

abbrev pub invariant-loop-k : goal.invariant-loop-k
invariant-loop-k l = l.cells.items ≡ map (λ k. (method_def_of (row_of l.metadata tables.MethodDef (k + 1))).params) (range_with_len 0 l.k)
