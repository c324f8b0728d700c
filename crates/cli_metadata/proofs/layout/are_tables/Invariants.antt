use Rattle.std.proofs.Common.{◌≡◌, drop}
use Rattle.cli_metadata.specs.Layout.{are_tables}
use Rattle.cli_metadata.proofs.layout.are_tables.Given as goal

abbrev pub invariant-loop-columns : goal.invariant-loop-columns
invariant-loop-columns l = are_tables l.bits (drop l.columns-index l.tables) ≡ are_tables l.valid l.tables
