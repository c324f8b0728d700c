-- Parts of the productions of assignments and calls.
use Rattle.std.specs.Prelude.{ℕ, Bool}
use Rattle.cs_token.specs.Placed.{Placed as Token}
use Rattle.cs_tree.specs.declared.forms.Syntax.{Syntax}
use Rattle.cs_tree.specs.declared.forms.Syntax.TheVariants as syntax
use Rattle.cs_productions.specs.declared.values.Measured.{Measured}
use Rattle.cs_grammar.specs.Grammar.{Grammar, gives, ◌>>=◌}
use Rattle.cs_productions.specs.Kinds.{semicolon}
use Rattle.cs_productions.specs.Tokens.{sign}
use Rattle.cs_productions.specs.Inner.{Inner}
use Rattle.cs_statements.specs.Actions.{action_to}

-- the sign behind what was read
abbrev pub ended_by : {A : Type 0} → ℕ → A → Grammar Token A
ended_by end a = do _ ← sign end; gives a

-- an assignment or a call, by whether its place is a call
abbrev pub act_as : ℕ → Inner → Bool → Measured → Grammar Token Syntax
act_as n inner is_call p = do a ← action_to n inner semicolon is_call p; gives (syntax.Act p.spot a)
