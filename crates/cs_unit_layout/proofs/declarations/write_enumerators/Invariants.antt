use Rattle.std.proofs.Common.{◌≡◌, take}
use Rattle.std.specs.Prelude.{map}
use Rattle.std.specs.String.{string_bytes}
use Rattle.cs_layout.specs.Pieces.{followed}
use Rattle.cs_unit_layout.specs.Units.{each, enumerator_laid}
use Rattle.cs_unit_layout.proofs.declarations.write_enumerators.Given as goal

abbrev pub invariant-loop-item : goal.invariant-loop-item
invariant-loop-item l = string_bytes l.out ≡ followed (string_bytes l.initial.out) (each (map enumerator_laid (take l.item-index l.enumerators)) l.margin)
