use Rattle.std.proofs.Common.{◌≡◌, take}
use Rattle.std.specs.Prelude.{map}
use Rattle.std.specs.String.{string_bytes}
use Rattle.cs_layout.specs.Pieces.{followed}
use Rattle.cs_unit_layout.specs.Units.{each, space_laid}
use Rattle.cs_print.proofs.units.write_each_space.Given as goal

abbrev pub invariant-loop-space : goal.invariant-loop-space
invariant-loop-space l = string_bytes l.out ≡ followed (string_bytes l.initial.out) (each (map space_laid (take l.space-index l.spaces)) l.margin)
