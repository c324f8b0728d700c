-- Parts of productions, from some token on.
use Rattle.std.specs.Prelude.{ℕ, Result, Ok, Err}
use Rattle.cs_token.specs.Placed.{Placed as Token}
use Rattle.cs_tree.specs.declared.types.Spot.{Spot}
use Rattle.cs_tree.specs.declared.types.Name.{Name}
use Rattle.cs_tree.specs.declared.types.TypeForm.{TypeForm}
use Rattle.cs_tree.specs.declared.forms.Block.{Block}
use Rattle.cs_tree.specs.declared.forms.Form.{Form}
use Rattle.cs_tree.specs.declared.forms.Syntax.{Syntax}
use Rattle.cs_tree.specs.declared.forms.Syntax.TheVariants as syntax
use Rattle.cs_productions.specs.declared.values.Measured.{Measured}
use Rattle.cs_grammar.specs.Grammar.{Grammar, gives, ◌>>=◌}
use Rattle.cs_productions.specs.Kinds.{unparen, semicolon}
use Rattle.cs_productions.specs.Tokens.{sign, any_name}
use Rattle.cs_productions.specs.Inner.{Inner}
use Rattle.cs_statements.specs.Jumps.{expression}
use Rattle.cs_statements.specs.Structured.{step}

-- the second of what was read
abbrev pub second : {A B E : Type 0} → Result (A × B) E → Result B E
second (Ok both) = Ok both.1
second (Err e) = Err e

-- "for" "(" ";" expr, and behind it
abbrev pub for_behind : ℕ → Inner → Spot → Form → Grammar Token Syntax
for_behind n inner s a = do
  _ ← sign semicolon
  c ← step n inner
  b ← inner.block
  gives (syntax.For s a c b)

-- ("foreach" | "using") "(" ty, and behind it
abbrev pub over_behind : ℕ → Inner → ℕ → (Spot → TypeForm → Name → Measured → Block → Syntax) → Spot → TypeForm → Grammar Token Syntax
over_behind n inner between made s t = do
  x ← any_name
  _ ← sign between
  a ← expression n inner
  _ ← sign unparen
  b ← inner.block
  gives (made s t x a b)
