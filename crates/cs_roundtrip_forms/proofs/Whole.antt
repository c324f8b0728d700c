-- Expressions without lambdas are read back.
use Rattle.std.proofs.Common.{ℕ, ◌+◌, ◌≤◌, ◌<◌, arith}
use Rattle.cs_tree.specs.declared.forms.Block.{Block}
use Rattle.cs_productions.specs.declared.values.Part.TheVariants.{Whole}
use Rattle.cs_productions.proofs.DeeperLevels.{deeper_forms_at}
use Rattle.cs_productions.proofs.OneAnswers.{answers_once}
use Rattle.cs_statements.specs.Blocks.{block_at}
use Rattle.cs_statements.proofs.ExactActions.{exact_expression}
use Rattle.cs_statements.proofs.ExactStatements.{exact_inside}
use Rattle.cs_statements.proofs.DeeperStatements.{widens_inside}
use Rattle.cs_wellformed.specs.WellFormed.{IsBlock, in_braces}
use Rattle.cs_roundtrip_types.proofs.Spelling.{says_so, read_back}
use Rattle.cs_roundtrip_forms.specs.Laws.{ExpressionsAreReadBack}
use Rattle.cs_roundtrip_forms.specs.Reading.{BlockIsRead}
use Rattle.cs_roundtrip_forms.proofs.Reading.{whole}
use Rattle.cs_roundtrip_forms.proofs.Forms.{form_read}

no_lambda : (levels limit : ℕ) (b : Block) (c : ℕ) → IsBlock levels limit b c → c ≤ 0 → (0 < 0) × BlockIsRead (block_at levels limit 0) b
no_lambda levels limit _ _ (in_braces stmts end b x) l = absurd (omega (arith, l))

pub expressions : ExpressionsAreReadBack
expressions levels limit f margin some w =
    read_back
    (answers_once (exact_expression levels (exact_inside levels limit 0)) (exact_expression (levels + 2) (exact_inside (levels + 2) (limit + 1) (0 + 1)))
    (deeper_forms_at Whole (widens_inside levels (levels + 2) limit (limit + 1) 0 (0 + 1) (omega arith) some (omega arith) (omega arith))))
    (says_so (whole (form_read levels limit (block_at levels limit 0) 0 (no_lambda levels limit) w.2 w.4 levels w.3 margin)) (λ m p. p.same))
