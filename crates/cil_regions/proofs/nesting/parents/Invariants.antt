use Rattle.cil_regions.proofs.ParentTable.{AreParentsUpto}
use Rattle.cil_regions.proofs.nesting.parents.Given as goal

abbrev pub invariant-loop-k : goal.invariant-loop-k
invariant-loop-k l = AreParentsUpto l.spans l.nodes l.tries l.count l.k l.parents.items
