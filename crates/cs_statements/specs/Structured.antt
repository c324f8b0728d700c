-- Statements that hold blocks (ECMA-334, 13.8, 13.9, 13.11, 13.13, 13.14).
use Rattle.std.specs.Prelude.{ℕ, true, List, [], ◌∷◌, ◌++◌, Option, Some, None, nat_lt}
use Rattle.cs_token.specs.Placed.{Placed as Token}
use Rattle.cs_tree.specs.declared.types.Spot.{Spot}
use Rattle.cs_tree.specs.declared.types.Name.{Name}
use Rattle.cs_tree.specs.declared.types.TypeForm.{TypeForm}
use Rattle.cs_tree.specs.declared.forms.SwitchLabel.{SwitchLabel}
use Rattle.cs_tree.specs.declared.forms.SwitchLabel.TheVariants as switch_label
use Rattle.cs_tree.specs.declared.forms.Action.{Action}
use Rattle.cs_tree.specs.declared.forms.Block.{Block}
use Rattle.cs_tree.specs.declared.forms.Section.{Section}
use Rattle.cs_tree.specs.declared.forms.Catching.{Catching}
use Rattle.cs_tree.specs.declared.forms.Syntax.{Syntax}
use Rattle.cs_tree.specs.declared.forms.Syntax.TheVariants as syntax
use Rattle.cs_productions.specs.declared.values.Measured.{Measured}
use Rattle.cs_grammar.specs.Grammar.{Grammar, gives, one, ◌>>=◌, either, turns}
use Rattle.cs_productions.specs.Kinds.{names, brace, unbrace, paren, unparen, equals, colon, semicolon, kw_if, kw_else, kw_while, kw_do, kw_for, kw_foreach, kw_in, kw_using, kw_lock, kw_switch, kw_case, kw_default, kw_try, kw_catch, kw_finally}
use Rattle.cs_productions.specs.Tokens.{kind, sign, place, any_name, literal_of}
use Rattle.cs_productions.specs.Types.{ty}
use Rattle.cs_productions.specs.Inner.{Inner}
use Rattle.cs_statements.specs.Kinds.{literal_kinds}
use Rattle.cs_statements.specs.Jumps.{expression}
use Rattle.cs_statements.specs.Actions.{primary, action_to}

-- "(" expr ")"
abbrev pub tested : ℕ → Inner → Grammar Token Measured
tested n inner = do _ ← sign paren; a ← expression n inner; _ ← sign unparen; gives a

-- a block where there may be none, behind this keyword
abbrev pub some_block : Block → Option Block
some_block b = Some b

abbrev pub no_block : Option Block
no_block = None

abbrev pub keyword_block : Inner → ℕ → Grammar Token (Option Block)
keyword_block inner k = do _ ← sign k; b ← inner.block; gives (some_block b)

abbrev pub maybe_block : Inner → ℕ → Grammar Token (Option Block)
maybe_block inner k = either kind (k ∷ []) (keyword_block inner k) (gives no_block)

-- "if" "(" expr ")" block ["else" block] (13.8.2)
abbrev pub of_if : ℕ → Inner → Grammar Token Syntax
of_if n inner = do
  s ← place kw_if
  a ← tested n inner
  b ← inner.block
  c ← maybe_block inner kw_else
  gives (syntax.If s a.form b c)

-- "while" "(" expr ")" block (13.9.2)
abbrev pub of_while : ℕ → Inner → Grammar Token Syntax
of_while n inner = do s ← place kw_while; a ← tested n inner; b ← inner.block; gives (syntax.While s a.form b)

-- "do" block "while" "(" expr ")" ";" (13.9.3)
abbrev pub of_do : ℕ → Inner → Grammar Token Syntax
of_do n inner = do
  s ← place kw_do
  b ← inner.block
  _ ← sign kw_while
  a ← tested n inner
  _ ← sign semicolon
  gives (syntax.DoWhile s b a.form)

-- "for" "(" ";" expr ";" step ")" block (13.9.4)
abbrev pub step : ℕ → Inner → Grammar Token Action
step n inner = do p ← primary n inner; action_to n inner unparen p.is_call p

abbrev pub of_for : ℕ → Inner → Grammar Token Syntax
of_for n inner = do
  s ← place kw_for
  _ ← sign paren
  _ ← sign semicolon
  a ← expression n inner
  _ ← sign semicolon
  c ← step n inner
  b ← inner.block
  gives (syntax.For s a.form c b)

-- "foreach" "(" ty name "in" expr ")" block (13.9.5) and "using" "(" ty name "=" expr ")" block (13.14)
abbrev pub foreach_of : Spot → TypeForm → Name → Measured → Block → Syntax
foreach_of s t x a b = syntax.Foreach s t x a.form b

abbrev pub using_of : Spot → TypeForm → Name → Measured → Block → Syntax
using_of s t x a b = syntax.Using s t x a.form b

abbrev pub over : ℕ → Inner → ℕ → ℕ → (Spot → TypeForm → Name → Measured → Block → Syntax) → Grammar Token Syntax
over n inner first between made = do
  s ← place first
  _ ← sign paren
  t ← ty inner.ranks
  x ← any_name
  _ ← sign between
  a ← expression n inner
  _ ← sign unparen
  b ← inner.block
  gives (made s t x a b)

abbrev pub of_foreach : ℕ → Inner → Grammar Token Syntax
of_foreach n inner = over n inner kw_foreach kw_in foreach_of

abbrev pub of_using : ℕ → Inner → Grammar Token Syntax
of_using n inner = over n inner kw_using equals using_of

-- "lock" "(" expr ")" block (13.13)
abbrev pub of_lock : ℕ → Inner → Grammar Token Syntax
of_lock n inner = do s ← place kw_lock; a ← tested n inner; b ← inner.block; gives (syntax.Lock s a.form b)

-- label = "case" literal ":" | "default" ":" (13.8.3)
abbrev pub case_label : Grammar Token SwitchLabel
case_label = do
  s ← place kw_case
  v ← one kind literal_kinds (λ t. literal_of t.lexeme)
  _ ← sign colon
  gives (switch_label.Case s v)

abbrev pub default_label : Grammar Token SwitchLabel
default_label = do s ← place kw_default; _ ← sign colon; gives (switch_label.Default s)

abbrev pub label : Grammar Token SwitchLabel
label = either kind (kw_case ∷ []) case_label default_label

abbrev pub one_more_label : List SwitchLabel → Grammar Token (List SwitchLabel)
one_more_label labels = do l ← label; gives (labels ++ l ∷ [])

-- label { label } block
abbrev pub section_of : List SwitchLabel → Block → Section
section_of labels b = record { labels = labels; block = b }

abbrev pub section : Inner → Grammar Token Section
section inner = do
  first ← label
  labels ← turns kind (kw_case ∷ kw_default ∷ []) (λ _. true) one_more_label (first ∷ [])
  b ← inner.block
  gives (section_of labels b)

abbrev pub one_more_section : Inner → List Section → Grammar Token (List Section)
one_more_section inner sections = do c ← section inner; gives (sections ++ c ∷ [])

-- "switch" "(" expr ")" "{" { label { label } block } "}". Its own braces are no block, but each section has one.
abbrev pub of_switch : ℕ → Inner → Grammar Token Syntax
of_switch n inner = do
  s ← place kw_switch
  a ← tested n inner
  _ ← sign brace
  sections ← turns kind (kw_case ∷ kw_default ∷ []) (λ _. nat_lt 0 inner.blocks) (one_more_section inner) []
  _ ← sign unbrace
  gives (syntax.Switch s a.form sections)

-- "catch" "(" ty [name] ")" block (13.11)
abbrev pub some_name : Name → Option Name
some_name x = Some x

abbrev pub no_name : Option Name
no_name = None

abbrev pub name_given : Grammar Token (Option Name)
name_given = do x ← any_name; gives (some_name x)

abbrev pub maybe_name : Grammar Token (Option Name)
maybe_name = either kind names name_given (gives no_name)

abbrev pub catching_of : Spot → TypeForm → Option Name → Block → Catching
catching_of s t x b = record { spot = s; ty = t; name = x; block = b }

abbrev pub catching : Inner → Grammar Token Catching
catching inner = do
  s ← place kw_catch
  _ ← sign paren
  t ← ty inner.ranks
  x ← maybe_name
  _ ← sign unparen
  b ← inner.block
  gives (catching_of s t x b)

abbrev pub one_more_catching : Inner → List Catching → Grammar Token (List Catching)
one_more_catching inner catches = do c ← catching inner; gives (catches ++ c ∷ [])

-- "try" block { "catch" "(" ty [name] ")" block } ["finally" block]
abbrev pub of_try : Inner → Grammar Token Syntax
of_try inner = do
  s ← place kw_try
  b ← inner.block
  catches ← turns kind (kw_catch ∷ []) (λ _. true) (one_more_catching inner) []
  last ← maybe_block inner kw_finally
  gives (syntax.Try s b catches last)

abbrev pub structured : ℕ → Inner → Grammar Token Syntax
structured n inner =
    either kind (kw_if ∷ []) (of_if n inner)
    (either kind (kw_while ∷ []) (of_while n inner)
    (either kind (kw_do ∷ []) (of_do n inner)
    (either kind (kw_for ∷ []) (of_for n inner)
    (either kind (kw_foreach ∷ []) (of_foreach n inner)
    (either kind (kw_using ∷ []) (of_using n inner) (either kind (kw_lock ∷ []) (of_lock n inner) (of_try inner)))))))
