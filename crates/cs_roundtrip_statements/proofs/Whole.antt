-- The laws.
use Rattle.std.proofs.Common.{ℕ, ◌+◌, ◌≤◌, ◌<◌, arith}
use Rattle.cs_tree.specs.declared.forms.Block.{Block}
use Rattle.cs_productions.specs.declared.values.Part.TheVariants.{Whole}
use Rattle.cs_productions.proofs.DeeperLevels.{deeper_forms_at}
use Rattle.cs_productions.proofs.OneAnswers.{answers_once}
use Rattle.cs_statements.specs.Blocks.{text_levels, text_ranks, text_blocks}
use Rattle.cs_statements.proofs.ExactActions.{exact_expression}
use Rattle.cs_statements.proofs.ExactStatements.{exact_inside}
use Rattle.cs_statements.proofs.DeeperStatements.{widens_inside}
use Rattle.cs_statements.proofs.OneBlock.{has_one_block}
use Rattle.cs_wellformed.specs.WellFormed.{IsBlock, in_braces}
use Rattle.cs_roundtrip_types.proofs.Spelling.{says_so, read_back}
use Rattle.cs_roundtrip_forms.proofs.Reading.{whole}
use Rattle.cs_roundtrip_statements.specs.Laws.{ExpressionsAreReadBack, BlocksAreReadBack, BlocksOfTextsAreReadBack}
use Rattle.cs_roundtrip_statements.proofs.Lines.{says_braced}
use Rattle.cs_roundtrip_statements.proofs.Blocks.{form_read, block_read}

pub expressions : ExpressionsAreReadBack
expressions levels limit blocks f margin some w =
    read_back
    (answers_once (exact_expression levels (exact_inside levels limit blocks)) (exact_expression (levels + 2) (exact_inside (levels + 2) (limit + 1) (blocks + 1)))
    (deeper_forms_at Whole (widens_inside levels (levels + 2) limit (limit + 1) blocks (blocks + 1) (omega arith) some (omega arith) (omega arith))))
    (says_so (whole (form_read levels limit w.2 blocks w.4 levels w.3 margin)) (λ m p. p.same))

-- a block counts itself, so that one may be open
one_at_least : {levels limit : ℕ} {b : Block} {c : ℕ} → IsBlock levels limit b c → (blocks : ℕ) → c ≤ blocks → 0 < blocks
one_at_least (in_braces stmts end c x) blocks l = omega (arith, l)

pub blocks_back : BlocksAreReadBack
blocks_back levels limit blocks b margin some w =
    read_back (has_one_block levels limit blocks some (one_at_least w.1 blocks w.2)) (says_braced b margin (block_read levels limit w.1 blocks w.2))

pub text_blocks_back : BlocksOfTextsAreReadBack
text_blocks_back b margin w = blocks_back text_levels text_ranks text_blocks b margin (omega arith) w
