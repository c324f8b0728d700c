use Rattle.std.proofs.Common.{◌≡◌, ◌≤◌, length, take, drop}
use Rattle.cli_metadata.specs.Layout.{tables_at}
use Rattle.cli_metadata.proofs.Places.{tables_behind}
use Rattle.cli_metadata.proofs.layout.tables_at.Given as goal

abbrev pub invariant-loop-i : goal.invariant-loop-i
invariant-loop-i l = (tables_behind (take l.i l.placed) (tables_at l.fn.prefix.sizes l.counts (drop l.i l.tables) l.i l.bytes l.at) ≡ tables_at l.fn.prefix.sizes l.counts l.tables 0 l.bytes l.fn.at) × (l.at ≤ length l.bytes) × (length l.placed ≡ 45)
