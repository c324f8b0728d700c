-- So far the front is all that the file lost, and no more than one byte past the limit.
use Rattle.std.proofs.Common.{◌≤◌, ◌+◌, ◌-◌, length}
use Rattle.std.specs.Io.KnownBytes.{Consumes}
use Rattle.ilspy_outside.proofs.front.read_front.Given as goal

abbrev pub invariant-loop-chunk : goal.invariant-loop-chunk
invariant-loop-chunk g l =
    (length l.front.items ≤ l.limit + 1) × Consumes (g.F.Read.remaining l.initial.file) (g.F.Read.remaining l.file) l.front.items

abbrev pub decreases-loop-chunk : goal.decreases-loop-chunk
decreases-loop-chunk g l = l.limit + 1 - length l.front.items
