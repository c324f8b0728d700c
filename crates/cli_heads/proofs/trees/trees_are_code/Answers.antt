use Rattle.cli_heads.proofs.TreesAreCode.{trees_are_code}
use Rattle.cli_heads.proofs.trees.trees_are_code.Goals as goal

pub returns : goal.returns
returns c = trees_are_code
