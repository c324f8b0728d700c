use Rattle.std.proofs.Common.{ℕ, ◌<◌, get_or}
use Rattle.cil_regions.specs.declared.region.Region.{Region}
use Rattle.verify_spots.specs.Questions.{Asks, span_of}
use Rattle.verify_spots.proofs.region.has_node.Given as goal

abbrev pub invariant-loop-node : goal.invariant-loop-node
invariant-loop-node l = (k : ℕ) (d : Region) → k < l.node-index → Asks l.regions.body.now l.question l.from l.to (span_of (get_or l.regions.nodes.now k d)) → ⊥
