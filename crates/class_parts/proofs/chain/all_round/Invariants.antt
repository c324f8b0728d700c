use Rattle.std.proofs.Common.{◌≡◌, map, take}
use Rattle.class_parts.specs.Above.{numbers_round}
use Rattle.class_parts.proofs.chain.all_round.Given as goal

abbrev pub invariant-loop-row : goal.invariant-loop-row
invariant-loop-row l = l.ways.items ≡ map numbers_round (take l.row-index l.types)
