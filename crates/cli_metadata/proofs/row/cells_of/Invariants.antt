use Rattle.cli_metadata.proofs.Cells.{Reads}
use Rattle.cli_metadata.proofs.row.cells_of.Given as goal

abbrev pub invariant-loop-i : goal.invariant-loop-i
invariant-loop-i l = Reads l.widths l.bytes l.i l.cells l.left
