use Rattle.std.proofs.Common.{◌≡◌, ◌++◌, take}
use Rattle.std.specs.List.{flat_map}
use Rattle.std.specs.String.{string_bytes}
use Rattle.cs_unit_layout.specs.Heads.{unit_noted}
use Rattle.cs_unit_layout.proofs.notes.write_units.Given as goal

abbrev pub invariant-loop-unit : goal.invariant-loop-unit
invariant-loop-unit l = string_bytes l.out ≡ string_bytes l.initial.out ++ flat_map unit_noted (take l.unit-index l.units)
