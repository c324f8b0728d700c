use Rattle.std.proofs.Common.{◌≡◌, ◌-◌, ◌≤◌, length}
use Rattle.cli_metadata.specs.Root.{headers_at, end_of}
use Rattle.cli_metadata.proofs.root.headers_end.Given as goal

abbrev pub invariant-loop : goal.invariant-loop
invariant-loop l = (end_of (headers_at (l.fn.root.count - l.counter) l.bytes l.at) ≡ end_of (headers_at l.fn.root.count l.bytes l.fn.root.at)) × (l.at ≤ length l.bytes)
