-- What is printed of expressions and blocks is written well, and is read back (ECMA-334, clauses 6, 12 and 13).
use Rattle.std.specs.Prelude.{◌≡◌, ℕ, ◌+◌, ◌<◌, Bool, List, [], Result, Ok, IsTrue}
use Rattle.std.specs.List.{flat_map, list_all}
use Rattle.std.proofs.Math.Utf8.{encodes}
use Rattle.cs_token.specs.declared.tokens.Token.{Token}
use Rattle.cs_token.specs.Placed.{Placed}
use Rattle.cs_token.specs.Words.{is_blank}
use Rattle.cs_token.specs.Cuts.{AreTokens}
use Rattle.cs_tree.specs.declared.forms.Form.{Form}
use Rattle.cs_tree.specs.declared.forms.Block.{Block}
use Rattle.cs_tree.specs.Bare.{bare_form, bare_block}
use Rattle.cs_grammar.specs.Grammar.{Grammar}
use Rattle.cs_grammar.specs.Whole.{Answers}
use Rattle.cs_statements.specs.Laws.{expression_at}
use Rattle.cs_statements.specs.Blocks.{block_at}
use Rattle.cs_written.specs.Written.{IsWritten}
use Rattle.cs_layout.specs.Pieces.{Piece, piece_bytes, tokens, last, has_blank_gaps}
use Rattle.cs_layout.specs.Layout.{form_shown, block_laid, braced}
use Rattle.cs_wellformed.specs.WellFormed.{IsForm, IsBlock, IsWellFormedForm, IsWellFormedBlock}

-- gaps are blanks, and each token stands apart from the next where it needs a gap
abbrev pub IsWrittenWell : List Piece → Type 0
IsWrittenWell ps = IsTrue (has_blank_gaps ps) × IsWritten (tokens ps) (last ps)

abbrev pub ExpressionsAreWrittenWell : Type 0
ExpressionsAreWrittenWell =
    (levels limit h b : ℕ) (f : Form) (margin : List ℕ) → IsTrue (list_all is_blank margin) → IsForm levels limit f h b → IsWrittenWell ((form_shown f).pieces margin)

abbrev pub BlocksAreWrittenWell : Type 0
BlocksAreWrittenWell =
    (levels limit c : ℕ) (b : Block) (margin : List ℕ) → IsTrue (list_all is_blank margin) → IsBlock levels limit b c → IsWrittenWell (braced (block_laid b) margin)

-- The bytes of the pieces are a text, whose tokens are a value of the grammar, which is what is wanted, and they are nothing else.
abbrev pub IsTextOf : {A : Type 0} → Grammar Placed A → Grammar Placed A → (A → Type 0) → List Piece → Type 0
IsTextOf {A} g wide Wanted ps =
    (text : List ℕ) × (flat_map piece_bytes ps ≡ encodes text)
    × ((ts : List Token) × AreTokens text ts × ((a : A) × Wanted a × g.derives ts a [] × ((r : Result A (Bool × List Token)) → Answers g wide ts r → r ≡ Ok a)))

abbrev pub PrintedExpressionsAreReadBack : Type 0
PrintedExpressionsAreReadBack =
    (levels limit blocks : ℕ) (f : Form) (margin : List ℕ) → 0 < limit → IsTrue (list_all is_blank margin) → IsWellFormedForm levels limit blocks f
    → IsTextOf (expression_at levels limit blocks) (expression_at (levels + 2) (limit + 1) (blocks + 1)) (λ m. bare_form m.form ≡ bare_form f) ((form_shown f).pieces margin)

abbrev pub PrintedBlocksAreReadBack : Type 0
PrintedBlocksAreReadBack =
    (levels limit blocks : ℕ) (b : Block) (margin : List ℕ) → 0 < limit → IsTrue (list_all is_blank margin) → IsWellFormedBlock levels limit blocks b
    → IsTextOf (block_at levels limit blocks) (block_at (levels + 2) (limit + 1) (blocks + 1)) (λ c. bare_block c ≡ bare_block b) (braced (block_laid b) margin)
