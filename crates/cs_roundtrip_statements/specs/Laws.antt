-- What is printed of expressions and blocks is read back (ECMA-334, clauses 12 and 13).
use Rattle.std.specs.Prelude.{◌≡◌, ℕ, ◌+◌, ◌<◌, List}
use Rattle.cs_tree.specs.declared.forms.Form.{Form}
use Rattle.cs_tree.specs.declared.forms.Block.{Block}
use Rattle.cs_tree.specs.Bare.{bare_form, bare_block}
use Rattle.cs_statements.specs.Laws.{expression_at}
use Rattle.cs_statements.specs.Blocks.{block_at, block_in_text, text_levels, text_ranks, text_blocks}
use Rattle.cs_layout.specs.Layout.{form_shown, block_laid, braced}
use Rattle.cs_wellformed.specs.WellFormed.{IsWellFormedForm, IsWellFormedBlock}
use Rattle.cs_roundtrip_types.specs.Laws.{IsReadBack}

-- the same expression but for its places
abbrev pub ExpressionsAreReadBack : Type 0
ExpressionsAreReadBack =
    (levels limit blocks : ℕ) (f : Form) (margin : List ℕ) → 0 < limit → IsWellFormedForm levels limit blocks f
    → IsReadBack (expression_at levels limit blocks) (expression_at (levels + 2) (limit + 1) (blocks + 1)) (λ m. bare_form m.form ≡ bare_form f) ((form_shown f).pieces margin)

-- the same block
abbrev pub BlocksAreReadBack : Type 0
BlocksAreReadBack =
    (levels limit blocks : ℕ) (b : Block) (margin : List ℕ) → 0 < limit → IsWellFormedBlock levels limit blocks b
    → IsReadBack (block_at levels limit blocks) (block_at (levels + 2) (limit + 1) (blocks + 1)) (λ c. bare_block c ≡ bare_block b) (braced (block_laid b) margin)

-- the same within the depths of a text
abbrev pub BlocksOfTextsAreReadBack : Type 0
BlocksOfTextsAreReadBack =
    (b : Block) (margin : List ℕ) → IsWellFormedBlock text_levels text_ranks text_blocks b
    → IsReadBack block_in_text (block_at (text_levels + 2) (text_ranks + 1) (text_blocks + 1)) (λ c. bare_block c ≡ bare_block b) (braced (block_laid b) margin)
