use Rattle.std.proofs.Common.{◌≡◌, take}
use Rattle.std.specs.Prelude.{map}
use Rattle.std.specs.String.{string_bytes}
use Rattle.cs_layout.specs.Pieces.{followed}
use Rattle.cs_unit_layout.specs.Units.{each, decl_laid}
use Rattle.cs_print.proofs.units.write_each_decl.Given as goal

abbrev pub invariant-loop-decl : goal.invariant-loop-decl
invariant-loop-decl l = string_bytes l.out ≡ followed (string_bytes l.initial.out) (each (map decl_laid (take l.decl-index l.types)) l.margin)
