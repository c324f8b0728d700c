use Rattle.std.proofs.Common.{◌≡◌, ◌-◌, ◌≤◌, length, take}
use Rattle.cli_metadata.specs.Layout.{counts_at}
use Rattle.cli_metadata.proofs.Places.{counts_behind}
use Rattle.cli_metadata.proofs.layout.counts_at.Given as goal

abbrev pub invariant-loop-i : goal.invariant-loop-i
invariant-loop-i l = (counts_behind (take l.i l.counts) (counts_at (45 - l.i) l.bits l.bytes l.at) ≡ counts_at 45 l.valid l.bytes l.fn.at) × (l.at ≤ length l.bytes) × (length l.counts ≡ 45)
