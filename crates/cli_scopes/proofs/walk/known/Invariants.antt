use Rattle.std.proofs.Common.{◌≡◌, map, take}
use Rattle.cli_scopes.specs.Walk.{known_of}
use Rattle.cli_scopes.proofs.walk.known.Given as goal

abbrev pub invariant-loop-mark : goal.invariant-loop-mark
invariant-loop-mark l = l.types.items ≡ map known_of (take l.mark-index l.marks)
