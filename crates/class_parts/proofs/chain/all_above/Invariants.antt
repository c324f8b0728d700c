use Rattle.std.proofs.Common.{◌≡◌, map, take}
use Rattle.class_parts.specs.Above.{numbers_above}
use Rattle.class_parts.proofs.chain.all_above.Given as goal

abbrev pub invariant-loop-row : goal.invariant-loop-row
invariant-loop-row l = l.ways.items ≡ map numbers_above (take l.row-index l.types)
