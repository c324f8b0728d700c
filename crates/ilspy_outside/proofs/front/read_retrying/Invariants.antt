-- An interrupted read leaves the file and the room as they were.
use Rattle.std.proofs.Common.{◌≡◌, length}
use Rattle.std.specs.Io.KnownBytes.{Keeps}
use Rattle.ilspy_outside.proofs.front.read_retrying.Given as goal

abbrev pub invariant-loop : goal.invariant-loop
invariant-loop g l = (length l.room ≡ length l.initial.room) × Keeps (g.F.Read.remaining l.initial.file) (g.F.Read.remaining l.file)
