use Rattle.cs_statements.proofs.OneBlock.{has_one_block}
use Rattle.cs_statements.proofs.laws.one_block.Goals as goal

pub returns : goal.returns
returns c = has_one_block
