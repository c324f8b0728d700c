use Rattle.std.proofs.Common.{◌≡◌, ◌<◌, ℕ, Some, slice_get}
use Rattle.cli_cells.specs.declared.cell.Cell.{Cell}
use Rattle.cli_cells.specs.Cells.{SaysSomething}
use Rattle.cli_cells.proofs.cell.first_fault.Given as goal

abbrev pub invariant-loop-cell : goal.invariant-loop-cell
invariant-loop-cell l = (j : ℕ) (cell : Cell) → j < l.cell-index → slice_get l.fn.cells j ≡ Some cell → SaysSomething l.fn.metadata cell
