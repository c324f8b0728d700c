-- Statements that jump (ECMA-334, 13.10), and labels (13.5).
use Rattle.std.specs.Prelude.{ℕ, List, [], ◌∷◌, Option, Some, None}
use Rattle.cs_token.specs.Placed.{Placed as Token}
use Rattle.cs_tree.specs.declared.types.Spot.{Spot}
use Rattle.cs_tree.specs.declared.forms.Form.{Form}
use Rattle.cs_tree.specs.declared.forms.Syntax.{Syntax}
use Rattle.cs_tree.specs.declared.forms.Syntax.TheVariants as syntax
use Rattle.cs_productions.specs.declared.values.Measured.{Measured}
use Rattle.cs_productions.specs.declared.values.Part.TheVariants.{Whole}
use Rattle.cs_grammar.specs.Grammar.{Grammar, gives, ◌>>=◌, either}
use Rattle.cs_productions.specs.Kinds.{colon, semicolon, expression_kinds, kw_goto, kw_break, kw_continue, kw_return, kw_throw}
use Rattle.cs_productions.specs.Tokens.{kind, sign, place, name_text}
use Rattle.cs_productions.specs.Inner.{Inner}
use Rattle.cs_productions.specs.Levels.{forms_at}

-- an expression of at most `n` levels
abbrev pub expression : ℕ → Inner → Grammar Token Measured
expression n inner = forms_at n inner Whole

-- name ":" ";", behind the name
abbrev pub labelled : Spot → List ℕ → Grammar Token Syntax
labelled s label = do _ ← sign colon; _ ← sign semicolon; gives (syntax.Label s label)

-- [expr] ";"
abbrev pub some_form : Measured → Option Form
some_form a = Some a.form

abbrev pub no_form : Option Form
no_form = None

abbrev pub value_given : ℕ → Inner → Grammar Token (Option Form)
value_given n inner = do a ← expression n inner; _ ← sign semicolon; gives (some_form a)

abbrev pub no_value : Grammar Token (Option Form)
no_value = do _ ← sign semicolon; gives no_form

abbrev pub value : ℕ → Inner → Grammar Token (Option Form)
value n inner = either kind expression_kinds (value_given n inner) no_value

abbrev pub of_goto : Grammar Token Syntax
of_goto = do s ← place kw_goto; label ← name_text; _ ← sign semicolon; gives (syntax.Goto s label)

abbrev pub of_break : Grammar Token Syntax
of_break = do s ← place kw_break; _ ← sign semicolon; gives (syntax.Break s)

abbrev pub of_continue : Grammar Token Syntax
of_continue = do s ← place kw_continue; _ ← sign semicolon; gives (syntax.Continue s)

abbrev pub of_return : ℕ → Inner → Grammar Token Syntax
of_return n inner = do s ← place kw_return; v ← value n inner; gives (syntax.Return s v)

abbrev pub of_throw : ℕ → Inner → Grammar Token Syntax
of_throw n inner = do s ← place kw_throw; v ← value n inner; gives (syntax.Throw s v)

-- "goto" name ";" | "break" ";" | "continue" ";" | "return" [expr] ";" | "throw" [expr] ";"
abbrev pub jump : ℕ → Inner → Grammar Token Syntax
jump n inner =
    either kind (kw_goto ∷ []) of_goto
    (either kind (kw_break ∷ []) of_break
    (either kind (kw_continue ∷ []) of_continue (either kind (kw_return ∷ []) (of_return n inner) (of_throw n inner))))
