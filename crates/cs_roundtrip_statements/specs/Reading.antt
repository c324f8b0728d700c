-- Inner facts: statements and their parts that are read.
use Rattle.std.specs.Prelude.{◌≡◌, ℕ, List, ◌++◌}
use Rattle.cs_tree.specs.declared.types.Spot.{Spot}
use Rattle.cs_tree.specs.declared.forms.Form.{Form}
use Rattle.cs_tree.specs.declared.forms.Action.{Action}
use Rattle.cs_tree.specs.declared.forms.Syntax.{Syntax}
use Rattle.cs_tree.specs.declared.forms.Syntax.TheVariants as syntax
use Rattle.cs_tree.specs.Bare.{bare_form, bare_action, bare_syntax}
use Rattle.cs_productions.specs.declared.values.Measured.{Measured}
use Rattle.cs_grammar.specs.Grammar.{bind}
use Rattle.cs_productions.specs.Inner.{Inner}
use Rattle.cs_statements.specs.Jumps.{expression}
use Rattle.cs_statements.specs.Actions.{primary, act}
use Rattle.cs_statements.specs.Structured.{step}
use Rattle.cs_statements.specs.Blocks.{statement}
use Rattle.cs_layout.specs.declared.fixed.Fixed.TheVariants as part
use Rattle.cs_layout.specs.Words.{fixed}
use Rattle.cs_layout.specs.Layout.{form_shown, action_laid, syntax_laid}
use Rattle.cs_roundtrip_types.specs.Spells.{Spells}

-- an expression in a statement, but for its places
abbrev pub SameForm : Form → Measured → Type 0
SameForm f m = bare_form m.form ≡ bare_form f

abbrev pub ValueIsRead : ℕ → Inner → Form → Type 0
ValueIsRead n inner f = (margin : List ℕ) → Spells (expression n inner) ((form_shown f).pieces margin) (SameForm f)

-- an assignment or a call, as a statement and as a step
pub record ActionIsRead (n : ℕ) (inner : Inner) (a : Action) (margin : List ℕ) : Type 0 where
  pub acts : (s : Spot) → Spells (bind (primary n inner) (act n inner)) (action_laid a margin ++ fixed part.Semicolon) (λ u. bare_syntax u ≡ bare_syntax (syntax.Act s a))
  pub steps : Spells (step n inner) (action_laid a margin ++ fixed part.Close) (λ c. bare_action c ≡ bare_action a)

-- a statement but for its places
abbrev pub StatementIsRead : ℕ → Inner → Syntax → Type 0
StatementIsRead n inner s = (margin : List ℕ) → Spells (statement n inner) (syntax_laid s margin) (λ u. bare_syntax u ≡ bare_syntax s)
