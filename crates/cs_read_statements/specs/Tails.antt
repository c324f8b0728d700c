-- A part of the production of a statement, from some keyword on.
use Rattle.std.specs.Prelude.{ℕ, [], ◌∷◌}
use Rattle.cs_token.specs.Placed.{Placed as Token}
use Rattle.cs_tree.specs.declared.forms.Syntax.{Syntax}
use Rattle.cs_grammar.specs.Grammar.{Grammar, either}
use Rattle.cs_productions.specs.Kinds.{kw_foreach, kw_using, kw_lock}
use Rattle.cs_productions.specs.Tokens.{kind}
use Rattle.cs_productions.specs.Inner.{Inner}
use Rattle.cs_statements.specs.Structured.{of_foreach, of_using, of_lock, of_try}

-- the statements that hold blocks, but those on a test
abbrev pub untested : ℕ → Inner → Grammar Token Syntax
untested n inner =
    either kind (kw_foreach ∷ []) (of_foreach n inner)
    (either kind (kw_using ∷ []) (of_using n inner) (either kind (kw_lock ∷ []) (of_lock n inner) (of_try inner)))
