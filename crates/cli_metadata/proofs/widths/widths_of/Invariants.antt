use Rattle.std.proofs.Common.{◌≡◌, length, take}
use Rattle.std.specs.Prelude.{map}
use Rattle.cli_metadata.specs.Widths.{width_of}
use Rattle.cli_metadata.proofs.widths.widths_of.Given as goal

abbrev pub invariant-loop-i : goal.invariant-loop-i
invariant-loop-i l = (take l.i l.widths ≡ map (width_of l.sizes l.counts) (take l.i l.columns)) × (length l.widths ≡ 9)
