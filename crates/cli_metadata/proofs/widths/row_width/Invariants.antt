use Rattle.std.proofs.Common.{◌≡◌, ◌*◌, ◌≤◌, take}
use Rattle.std.specs.List.{sum_by}
use Rattle.cli_metadata.specs.Widths.{bytes_in}
use Rattle.cli_metadata.proofs.widths.row_width.Given as goal

abbrev pub invariant-loop-width : goal.invariant-loop-width
invariant-loop-width l = (l.bytes ≡ sum_by bytes_in (take l.width-index l.widths)) × (l.bytes ≤ 4 * l.width-index)
