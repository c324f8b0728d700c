-- Parts of the production of `switch`, from some token on.
use Rattle.std.specs.Prelude.{[], ◌∷◌, nat_lt, Result, Ok, Err}
use Rattle.cs_token.specs.Placed.{Placed as Token}
use Rattle.cs_tree.specs.declared.types.Spot.{Spot}
use Rattle.cs_tree.specs.declared.forms.Form.{Form}
use Rattle.cs_tree.specs.declared.forms.Syntax.{Syntax}
use Rattle.cs_tree.specs.declared.forms.Syntax.TheVariants as syntax
use Rattle.cs_grammar.specs.Grammar.{Grammar, gives, ◌>>=◌, turns}
use Rattle.cs_productions.specs.Kinds.{brace, unbrace, kw_case, kw_default}
use Rattle.cs_productions.specs.Tokens.{kind, sign}
use Rattle.cs_productions.specs.Inner.{Inner}
use Rattle.cs_statements.specs.Structured.{one_more_section}

-- whether something was read, whatever it was
abbrev pub done : {A E : Type 0} → Result A E → Result (Unit {0}) E
done (Ok _) = Ok tt
done (Err e) = Err e

-- "switch" "(" expr ")", and behind it
abbrev pub switch_behind : Inner → Spot → Form → Grammar Token Syntax
switch_behind inner s a = do
  _ ← sign brace
  sections ← turns kind (kw_case ∷ kw_default ∷ []) (λ _. nat_lt 0 inner.blocks) (one_more_section inner) []
  _ ← sign unbrace
  gives (syntax.Switch s a sections)
