use Rattle.cil_regions.specs.Caught.{AreCatching}
use Rattle.cil_regions.proofs.rethrow.catching.Given as goal

abbrev pub invariant-loop-node : goal.invariant-loop-node
invariant-loop-node l = AreCatching l.nodes l.node-index l.catching.items
