use Rattle.std.proofs.Common.{◌≡◌, take}
use Rattle.std.specs.Prelude.{map}
use Rattle.std.specs.String.{string_bytes}
use Rattle.cs_layout.specs.Pieces.{followed}
use Rattle.cs_layout.specs.Words.{listed, type_pieces}
use Rattle.cs_unit_layout.proofs.declarations.write_types.Given as goal

abbrev pub invariant-loop-index : goal.invariant-loop-index
invariant-loop-index l = string_bytes l.out ≡ followed (string_bytes l.initial.out) (listed (map type_pieces (take l.index l.types)))
