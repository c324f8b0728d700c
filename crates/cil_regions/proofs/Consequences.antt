-- The laws of this crate, for the proofs of the crates above.
use Rattle.cil_regions.specs.Laws.{HasOneTree, TreeHasNoFault, TreeHasOneFault}
use Rattle.cil_regions.proofs.OneTree.{one_tree}
use Rattle.cil_regions.proofs.OneRegions.{tree_not, one_fault}

pub has_one_tree : HasOneTree
has_one_tree = one_tree

pub tree_has_no_fault : TreeHasNoFault
tree_has_no_fault = tree_not

pub tree_has_one_fault : TreeHasOneFault
tree_has_one_fault = one_fault
