use Rattle.std.proofs.Common.{◌≡◌}
use Rattle.std.specs.String.{string_bytes}
use Rattle.cs_layout.specs.Pieces.{followed}
use Rattle.cs_layout.specs.Words.{ranks}
use Rattle.cs_layout.proofs.words.write_ranks.Given as goal

abbrev pub invariant-loop-rank : goal.invariant-loop-rank
invariant-loop-rank l = string_bytes l.out ≡ followed (string_bytes l.initial.out) (ranks l._rank)
