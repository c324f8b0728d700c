-- The rows, each by what its productions read.
use Rattle.std.proofs.Common.{◌≡◌, ℕ, ◌+◌, ◌<◌, false, List, [], ◌∷◌, Option, Some, refl, sym, ◌∙◌, ap, subst, Ok, arith}
use Rattle.cs_token.specs.Placed.{Placed as Token}
use Rattle.cs_tree.specs.declared.types.TypeForm.{TypeForm}
use Rattle.cs_tree.specs.declared.forms.Form.{Form}
use Rattle.cs_tree.specs.declared.forms.Form.TheVariants as form
use Rattle.cs_tree.specs.declared.forms.Block.{Block}
use Rattle.cs_tree.specs.declared.forms.Action.TheOpen.{Form-F}
use Rattle.cs_tree.specs.declared.forms.Action.TheFolds.{fold-roll-Form}
use Rattle.cs_productions.specs.declared.values.Measured.{Measured}
use Rattle.cs_productions.specs.declared.values.Part.TheVariants.{Whole}
use Rattle.cs_grammar.specs.Grammar.{Read, and_then}
use Rattle.cs_grammar.specs.Whole.{Answers, whole}
use Rattle.cs_productions.specs.Inner.{Inner}
use Rattle.cs_productions.specs.Levels.{below}
use Rattle.cs_productions.specs.Primaries.{path_alone}
use Rattle.cs_productions.specs.Operators.{path_layer, no_path, path_of, closed_form, conditional}
use Rattle.cs_grammar.proofs.Whole.{whole_answers}
use Rattle.cs_productions.proofs.DeeperLevels.{deeper_forms_at}
use Rattle.cs_statements.specs.Laws.{expression_at}
use Rattle.cs_statements.specs.Blocks.{block_at}
use Rattle.cs_statements.proofs.ExactActions.{exact_expression}
use Rattle.cs_statements.proofs.ExactStatements.{exact_inside, exact_block_at}
use Rattle.cs_statements.proofs.DeeperStatements.{widens_inside, deeper_block_at}
use Rattle.cs_rows.specs.Expressions.{Is, sub, left, tighter, right, twice, cast_of_name, difference, no_cast, whole_path, new_array, level_too_many, bracket_too_many, Operators, Casts, Depths}
use Rattle.cs_rows.specs.Statements.{declared, label_and_call, if_else, no_statement, block_too_many, Blocks}
use Rattle.cs_productions.specs.Kinds.{brace, minus}
use Rattle.cs_rows.specs.Samples.{here, word, sign, a, b, named, path_type}

-- what is read is derived
is : (ts : List Token) (f : Form) (m : Measured) → (expression_at 6 2 1).reads ts ≡ Ok (m, []) → m.form ≡ f → Is ts f
is ts f m e h = (m, h, (exact_expression 6 (exact_inside 6 2 1)).sound ts m [] e)

are : (ts : List Token) (b : Block) → (block_at 6 2 2).reads ts ≡ Ok (b, []) → (block_at 6 2 2).derives ts b []
are ts b e = (exact_block_at 6 2 2).sound ts b [] e

-- what a whole list is
answer : (levels ranks : ℕ) → 0 < ranks → (ts : List Token) → Answers (expression_at levels ranks 1) (expression_at (levels + 2) (ranks + 1) (1 + 1)) ts (whole ((expression_at levels ranks 1).reads ts))
answer levels ranks some ts =
    whole_answers (exact_expression levels (exact_inside levels ranks 1)) (exact_expression (levels + 2) (exact_inside (levels + 2) (ranks + 1) (1 + 1)))
    (deeper_forms_at Whole (widens_inside levels (levels + 2) ranks (ranks + 1) 1 (1 + 1) (omega arith) some (omega arith) (omega arith))) ts

answer_of_block : (blocks : ℕ) → 0 < blocks → (ts : List Token) → Answers (block_at 6 2 blocks) (block_at (6 + 2) (2 + 1) (blocks + 1)) ts (whole ((block_at 6 2 blocks).reads ts))
answer_of_block blocks some ts =
    whole_answers (exact_block_at 6 2 blocks) (exact_block_at (6 + 2) (2 + 1) (blocks + 1)) (deeper_block_at 6 (6 + 2) 2 (2 + 1) blocks (blocks + 1) (omega arith) (omega arith) (omega arith) some (omega arith)) ts

abbrev measured : Form → ℕ → Measured
measured f h = record { form = f; height = h; spot = here; is_call = false }

pub operators : Operators
operators = (is left _ (measured _ 2) refl refl, is tighter _ (measured _ 2) refl refl, is right _ (measured _ 2) refl refl, is twice _ (measured _ 2) refl refl)

-- Behind a path in parentheses: what stands there is read with the type that the path is.
path_is : path_of (form.Global here (a ∷ [])) ≡ Some (path_type (a ∷ []))
path_is =
    ap path_of (sym (form.rolls-Global here (a ∷ [])))
    ∙ fold-roll-Form (Option TypeForm) (Option TypeForm) (Option TypeForm) (Option TypeForm) (Option TypeForm) (Option TypeForm) (Option TypeForm) no_path path_layer no_path no_path no_path no_path no_path (Form-F.Global here (a ∷ []))

abbrev inner : Inner
inner = below (block_at 6 2 1) 1 2 6

abbrev behind : Option TypeForm → List Token → Read Token Measured
behind o ts = and_then ((closed_form 6 inner here (path_alone here (a ∷ [])) o).reads ts) (λ x mid. (conditional 6 inner x).reads mid)

cast_read : (expression_at 6 2 1).reads cast_of_name ≡ Ok (measured (form.Cast here (path_type (a ∷ [])) (named b)) 1, [])
cast_read =
    subst (λ (o : Option TypeForm). behind o (word b ∷ []) ≡ Ok (measured (form.Cast here (path_type (a ∷ [])) (named b)) 1, [])) (sym path_is) refl

difference_read : (expression_at 6 2 1).reads difference ≡ Ok (measured (sub (form.Global here (a ∷ [])) (named b)) 2, [])
difference_read =
    subst (λ (o : Option TypeForm). behind o (sign minus ∷ word b ∷ []) ≡ Ok (measured (sub (form.Global here (a ∷ [])) (named b)) 2, [])) (sym path_is) refl

pub casts : Casts
casts = (
  is cast_of_name _ _ cast_read refl,
  is difference _ _ difference_read refl,
  answer 6 2 (omega arith) no_cast,
  is whole_path _ (measured _ 0) refl refl,
  is new_array _ (measured _ 1) refl refl,
)

pub depths : Depths
depths = (answer 1 2 (omega arith) level_too_many, answer 6 1 (omega arith) bracket_too_many)

pub blocks : Blocks
blocks = (
  are (sign brace ∷ declared) _ refl,
  are (sign brace ∷ label_and_call) _ refl,
  are (sign brace ∷ if_else) _ refl,
  answer_of_block 2 (omega arith) no_statement,
  answer_of_block 1 (omega arith) block_too_many,
)
