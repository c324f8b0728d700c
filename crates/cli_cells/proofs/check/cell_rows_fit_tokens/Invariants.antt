use Rattle.cli_cells.proofs.Few.{AreFewUpTo}
use Rattle.cli_cells.proofs.check.cell_rows_fit_tokens.Given as goal

abbrev pub invariant-loop-table : goal.invariant-loop-table
invariant-loop-table l = AreFewUpTo l.fn.metadata l.table-index
