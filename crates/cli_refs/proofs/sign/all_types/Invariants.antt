use Rattle.std.proofs.Common.{◌≡◌, map, take}
use Rattle.class_rows.specs.Members.{types_of}
use Rattle.cli_refs.proofs.sign.all_types.Given as goal

abbrev pub invariant-loop-row : goal.invariant-loop-row
invariant-loop-row l = l.types.items ≡ map types_of (take l.row-index l.members)
