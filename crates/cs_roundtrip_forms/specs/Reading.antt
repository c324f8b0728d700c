-- Inner facts: an expression that is read.
use Rattle.std.specs.Prelude.{◌≡◌, ℕ, ◌≤◌, true, false, List, map, ◌++◌}
use Rattle.cs_token.specs.Placed.{Placed as Token}
use Rattle.cs_tree.specs.declared.forms.Block.{Block}
use Rattle.cs_tree.specs.declared.forms.Form.{Form}
use Rattle.cs_tree.specs.declared.forms.Arg.{Arg}
use Rattle.cs_tree.specs.Bare.{bare_form, bare_arg, bare_block}
use Rattle.cs_productions.specs.declared.values.Measured.{Measured}
use Rattle.cs_productions.specs.declared.values.Args.{Args}
use Rattle.cs_productions.specs.Inner.{Inner}
use Rattle.cs_layout.specs.Pieces.{Piece}
use Rattle.cs_grammar.specs.Grammar.{Grammar}
use Rattle.cs_layout.specs.declared.fixed.Fixed.TheVariants as part
use Rattle.cs_layout.specs.Words.{fixed}
use Rattle.cs_layout.specs.Layout.{form_shown, block_laid}
use Rattle.cs_wellformed.specs.Standing.{is_path, begins_lambda}
use Rattle.cs_roundtrip_types.specs.Spells.{Spells}
use Rattle.cs_roundtrip_forms.specs.Standing.{Opens, standing, rounds, Top, takes_lambda, top_at, member_tail, index_tail}

-- this expression but for its places, with so many levels
pub record IsRead (f : Form) (h : ℕ) (m : Measured) : Type 0 where
  pub same : bare_form m.form ≡ bare_form f
  pub tall : m.height ≡ h

-- these arguments but for their places, with so many levels
pub record AreRead (args : List Arg) (h : ℕ) (r : Args) : Type 0 where
  pub same : map bare_arg r.args ≡ map bare_arg args
  pub tall : r.height ≡ h

-- a lambda at the front stands where it may
abbrev pub MayStand : Form → Top → Type 0
MayStand f top = begins_lambda f ≡ true → takes_lambda top ≡ true

-- An expression is read at its own level, and one of two operands with more operators of its level behind it. A primary one is also read with what may stand behind it.
pub record Reads (n : ℕ) (inner : Inner) (f : Form) (h : ℕ) (ps : List Piece) : Type 0 where
  pub stands : Spells (standing (form_shown f).level n inner) ps (IsRead f h)
  pub chains : 1 ≤ (form_shown f).level → (form_shown f).level ≤ 10 → Opens (rounds (form_shown f).level n inner) (standing (form_shown f).level n inner) ps (IsRead f h)
  pub primary : (top : Top) → MayStand f top → 13 ≤ (form_shown f).level → Spells (top_at top n inner) ps (IsRead f h)
  pub member : (top : Top) → MayStand f top → 13 ≤ (form_shown f).level → is_path f ≡ false → Opens (member_tail n inner) (top_at top n inner) ps (IsRead f h)
  pub index : (top : Top) → MayStand f top → 14 ≤ (form_shown f).level → Opens (index_tail n inner) (top_at top n inner) ps (IsRead f h)

-- this block but for its places, from brace to brace and whatever the margin
abbrev pub BlockIsRead : Grammar Token Block → Block → Type 0
BlockIsRead g b = (margin : List ℕ) → Spells g (fixed part.OpenBrace ++ (block_laid b margin ++ fixed part.CloseBrace)) (λ c. bare_block c ≡ bare_block b)
