use Rattle.std.proofs.Common.{arith}
use Rattle.cs_statements.specs.Blocks.{text_levels, text_ranks, text_blocks}
use Rattle.cs_statements.proofs.OneBlock.{has_one_block}
use Rattle.cs_statements.proofs.laws.one_block_in_text.Goals as goal

pub returns : goal.returns
returns c = has_one_block text_levels text_ranks text_blocks (omega arith) (omega arith)
