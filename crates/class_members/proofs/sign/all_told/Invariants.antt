use Rattle.std.proofs.Common.{◌≡◌, map, take}
use Rattle.class_members.specs.Twins.{told_types}
use Rattle.class_members.proofs.sign.all_told.Given as goal

abbrev pub invariant-loop-row : goal.invariant-loop-row
invariant-loop-row l = l.told.items ≡ map told_types (take l.row-index l.members)
