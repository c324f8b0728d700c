use Rattle.cil_regions.proofs.Consequences.{has_one_tree, tree_has_no_fault, tree_has_one_fault}
use Rattle.cil_regions.proofs.laws.one_region_tree.Goals as goal

pub returns : goal.returns
returns c = record { one_tree = has_one_tree; no_fault = tree_has_no_fault; one_fault = tree_has_one_fault }
