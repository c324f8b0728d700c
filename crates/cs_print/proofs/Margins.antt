-- One more level of a margin.
use Rattle.std.proofs.Common.{◌≡◌, ℕ, suc, ◌+◌, ◌++◌, ap, arith}
use Rattle.std.specs.Prelude.{codes}
use Rattle.cs_unit_layout.specs.Units.{margin_of}

pub one_more_level : (n : ℕ) → margin_of n ++ codes "    " ≡ margin_of (n + 1)
one_more_level n = let next : suc n ≡ n + 1 = omega arith in ap margin_of next
