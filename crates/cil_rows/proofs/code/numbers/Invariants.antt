use Rattle.std.proofs.Common.{◌≡◌, map, take}
use Rattle.cil_rows.specs.Code.{number_at}
use Rattle.cil_rows.proofs.code.numbers.Given as goal

abbrev pub invariant-loop-place : goal.invariant-loop-place
invariant-loop-place l = l.numbers.items ≡ map (number_at l.starts) (take l.place-index l.places)
