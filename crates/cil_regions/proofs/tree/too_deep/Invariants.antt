use Rattle.std.proofs.Common.{◌≡◌, length}
use Rattle.cil_regions.specs.Laid.{AreDepths}
use Rattle.cil_regions.proofs.tree.too_deep.Given as goal

abbrev pub invariant-loop-k : goal.invariant-loop-k
invariant-loop-k l = record { many : length l.depths.items ≡ l.k; fine : AreDepths l.nodes l.depths.items }
