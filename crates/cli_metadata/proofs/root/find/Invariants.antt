use Rattle.std.proofs.Common.{◌-◌, ◌≤◌, length}
use Rattle.cli_metadata.specs.Root.{headers_at, named_in}
use Rattle.cli_metadata.proofs.Headers.{Seeks}
use Rattle.cli_metadata.proofs.root.find.Given as goal

abbrev pub invariant-loop : goal.invariant-loop
invariant-loop l = Seeks l.name (headers_at (l.fn.root.count - l.counter) l.bytes l.at) (named_in l.name (headers_at l.fn.root.count l.bytes l.fn.root.at)) × (l.at ≤ length l.bytes)
