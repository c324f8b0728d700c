-- A list of tokens is one block and no other, or has one fault.
use Rattle.std.proofs.Common.{◌+◌, arith}
use Rattle.cs_productions.proofs.OneAnswers.{answers_once}
use Rattle.cs_statements.specs.Laws.{HasOneBlock}
use Rattle.cs_statements.proofs.ExactStatements.{exact_block_at}
use Rattle.cs_statements.proofs.DeeperStatements.{deeper_block_at}

pub has_one_block : HasOneBlock
has_one_block levels ranks blocks some more =
    answers_once (exact_block_at levels ranks blocks) (exact_block_at (levels + 2) (ranks + 1) (blocks + 1))
    (deeper_block_at levels (levels + 2) ranks (ranks + 1) blocks (blocks + 1) (omega arith) some (omega arith) more (omega arith))
