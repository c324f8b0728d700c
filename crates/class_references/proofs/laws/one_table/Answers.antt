use Rattle.class_references.proofs.OneTable.{has_one_table}
use Rattle.class_references.proofs.laws.one_table.Goals as goal

pub returns : goal.returns
returns c = has_one_table
