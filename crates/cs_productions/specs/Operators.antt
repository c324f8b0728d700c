-- Parentheses, casts, lambdas and operators (ECMA-334, 12.8.5, 12.9 to 12.14, 12.18 and 12.19).
use Rattle.std.specs.Prelude.{ℕ, max, cond, ◌==◌, List, [], ◌∷◌, Option, Some, None, nat_lt}
use Rattle.cs_token.specs.Placed.{Placed as Token}
use Rattle.cs_tree.specs.declared.types.Spot.{Spot}
use Rattle.cs_tree.specs.declared.types.TypeForm.{TypeForm}
use Rattle.cs_tree.specs.declared.types.Param.{Param}
use Rattle.cs_tree.specs.declared.types.Way.TheVariants as passed
use Rattle.cs_tree.specs.declared.forms.Block.{Block}
use Rattle.cs_tree.specs.declared.forms.Form.{Form}
use Rattle.cs_tree.specs.declared.forms.Form.TheVariants as form
use Rattle.cs_tree.specs.declared.forms.Action.TheOpen.{Form-F}
use Rattle.cs_tree.specs.declared.forms.Action.TheFolds.{fold-Form}
use Rattle.cs_productions.specs.declared.values.Measured.{Measured}
use Rattle.cs_productions.specs.declared.values.Lead.{Lead}
use Rattle.cs_productions.specs.declared.values.Lead.TheVariants as led
use Rattle.cs_productions.specs.declared.values.Part.{Part}
use Rattle.cs_productions.specs.declared.values.Part.TheVariants as part
use Rattle.cs_grammar.specs.Grammar.{Grammar, gives, one, ◌>>=◌, either, guarded, turns}
use Rattle.cs_productions.specs.Kinds.{names, paren, unparen, bracket, unbracket, colon, colons, question, arrow, global, keyword_types, operand_kinds, expression_kinds, counted_kinds, unary_operators, multiplicative_operators, additive_operators, shift_operators, comparisons, type_tests, relational_operators, equality_operators, amp, caret, bar, both, either_one, kw_is, kw_ref, kw_out, kw_new, kw_default, kw_base}
use Rattle.cs_productions.specs.Tokens.{kind, sign, place, spot_of, any_name, unary_of, binary_of}
use Rattle.cs_productions.specs.Types.{path, array_of, ranks, type_of_keyword, ty, global_type, passed_param, param_of, more_params}
use Rattle.cs_productions.specs.Inner.{Inner}
use Rattle.cs_productions.specs.Calls.{raised, postfixes, index_of}
use Rattle.cs_productions.specs.Primaries.{of_base, path_alone, called_path, of_global, global_leaf, of_new, of_default, of_checked, of_simple}

-- "(" expr ")" (12.8.5)
abbrev pub in_parentheses : Spot → Measured → Measured
in_parentheses s a = raised a.height a.form s

-- "(" [param {"," param}] ")" "=>" block (12.19), from the ")" on. Where no block may be opened, the first token with which only a
-- lambda goes on is too deep.
abbrev pub lambda_of : Spot → List Param → Block → Measured
lambda_of s params block = raised 0 (form.Lambda s params block) s

abbrev pub lambda : ℕ → Inner → Spot → List Param → Grammar Token Measured
lambda n inner s params = do
  _ ← sign unparen
  _ ← sign arrow
  block ← inner.block
  postfixes n inner (lambda_of s params block)

-- the same behind the first parameter
abbrev pub lambda_behind : ℕ → Inner → Spot → Param → Grammar Token Measured
lambda_behind n inner s first = do params ← more_params inner.ranks (first ∷ []); lambda n inner s params

abbrev pub lambda_from_way : ℕ → Inner → Spot → Grammar Token Measured
lambda_from_way n inner s = do first ← passed_param inner.ranks; lambda_behind n inner s first

abbrev pub lambda_from_type : ℕ → Inner → Spot → TypeForm → Grammar Token Measured
lambda_from_type n inner s t = do name ← any_name; lambda_behind n inner s (param_of passed.Value t name)

-- "(" ty ")" operand (12.9.7), behind the ")"
abbrev pub cast_of : Spot → TypeForm → Measured → Measured
cast_of s t a = raised a.height (form.Cast s t a.form) s

abbrev pub casting : Inner → Spot → TypeForm → Grammar Token Measured
casting inner s t = do a ← inner.forms part.Operand; gives (cast_of s t a)

-- behind a type that is a keyword or ends in brackets: a cast
abbrev pub cast_to : Inner → Spot → TypeForm → Grammar Token Measured
cast_to inner s t = do _ ← sign unparen; casting inner s t

-- The path that an expression is, if it is one. Behind such a path in parentheses an operand makes a cast of it.
abbrev pub path_layer : Form-F (Option TypeForm) (Option TypeForm) (Option TypeForm) (Option TypeForm) (Option TypeForm) (Option TypeForm) (Option TypeForm) → Option TypeForm
path_layer (Form-F.Global s names) = Some (global_type s names)
path_layer _ = None

abbrev pub no_path : {L : Type 0} → L → Option TypeForm
no_path _ = None

abbrev pub path_of : Form → Option TypeForm
path_of =
    fold-Form (Option TypeForm) (Option TypeForm) (Option TypeForm) (Option TypeForm) (Option TypeForm) (Option TypeForm) (Option TypeForm) no_path path_layer no_path no_path no_path no_path no_path

abbrev pub closed_form : ℕ → Inner → Spot → Measured → Option TypeForm → Grammar Token Measured
closed_form n inner s a None = postfixes n inner (in_parentheses s a)
closed_form n inner s a (Some t) = either kind operand_kinds (casting inner s t) (postfixes n inner (in_parentheses s a))

-- Behind "(" and what began with `global`. `(global::A.B)-x` is a difference: no operand begins with a minus.
abbrev pub closed : ℕ → Inner → Spot → Lead → Grammar Token Measured
closed n inner s (led.Form a) = do _ ← sign unparen; closed_form n inner s a (path_of a.form)
closed n inner s (led.Type t) = cast_to inner s t
closed n inner s (led.Named t name) = lambda_behind n inner s (param_of passed.Value t name)

abbrev pub led_in : ℕ → Inner → Spot → Grammar Token Measured
led_in n inner s = do l ← inner.lead; closed n inner s l

-- behind "(" and a type that begins with a keyword: a cast or a lambda
abbrev pub behind_type : ℕ → Inner → Spot → TypeForm → Grammar Token Measured
behind_type n inner s t = guarded kind (nat_lt 0 inner.blocks) names (lambda_from_type n inner s t) (cast_to inner s t)

abbrev pub keyword_in : ℕ → Inner → Spot → Grammar Token Measured
keyword_in n inner s = do t ← type_of_keyword inner.ranks; behind_type n inner s t

abbrev pub plain_in : ℕ → Inner → Spot → Grammar Token Measured
plain_in n inner s = do a ← inner.forms part.Plain; _ ← sign unparen; postfixes n inner (in_parentheses s a)

-- "(" expr ")" | "(" ty ")" operand | "(" [param {"," param}] ")" "=>" block
abbrev pub lambda_in : ℕ → Inner → Spot → Grammar Token Measured
lambda_in n inner s = either kind (unparen ∷ []) (lambda n inner s []) (lambda_from_way n inner s)

abbrev pub form_in : ℕ → Inner → Spot → Grammar Token Measured
form_in n inner s = either kind keyword_types (keyword_in n inner s) (either kind (global ∷ []) (led_in n inner s) (plain_in n inner s))

abbrev pub behind_paren : ℕ → Inner → Spot → Grammar Token Measured
behind_paren n inner s = guarded kind (nat_lt 0 inner.blocks) (unparen ∷ kw_ref ∷ kw_out ∷ []) (lambda_in n inner s) (form_in n inner s)

abbrev pub of_paren : ℕ → Inner → Grammar Token Measured
of_paren n inner = do s ← place paren; behind_paren n inner s

-- what counts as a level, and what doesn't
abbrev pub of_counted : ℕ → Inner → Grammar Token Measured
of_counted n inner =
    either kind (paren ∷ []) (of_paren n inner)
    (either kind (kw_new ∷ []) (of_new n inner) (either kind (kw_default ∷ []) (of_default n inner) (of_checked n inner)))

abbrev pub of_plain : ℕ → Inner → Grammar Token Measured
of_plain n inner = either kind (kw_base ∷ []) (of_base n inner) (of_simple n inner)

abbrev pub plain_operand : ℕ → Inner → Grammar Token Measured
plain_operand n inner = guarded kind (nat_lt 0 n) counted_kinds (of_counted n inner) (of_plain n inner)

-- operand = "(" ty ")" operand | primary
abbrev pub operand : ℕ → Inner → Grammar Token Measured
operand n inner = either kind (global ∷ []) (of_global n inner) (plain_operand n inner)

-- unary = ("!" | "~" | "-") unary | operand (12.9)
abbrev pub signed_of : Token → Measured → Measured
signed_of t a = raised a.height (form.Unary (spot_of t) (unary_of (kind t)) a.form) (spot_of t)

abbrev pub signed : Inner → Grammar Token Measured
signed inner = do t ← one kind unary_operators (λ t. t); a ← inner.forms part.Unary; gives (signed_of t a)

abbrev pub unary : ℕ → Inner → Grammar Token Measured
unary n inner = guarded kind (nat_lt 0 n) unary_operators (signed inner) (operand n inner)

abbrev pub plain_unary : ℕ → Inner → Grammar Token Measured
plain_unary n inner = guarded kind (nat_lt 0 n) unary_operators (signed inner) (plain_operand n inner)

-- One two-place operator and its right operand, which is of the level below, so that operators associate to the left (12.4.2).
abbrev pub binary_form : Measured → ℕ → Measured → Measured
binary_form a k b = raised (max a.height b.height) (form.Binary a.spot (binary_of k) a.form b.form) a.spot

abbrev pub one_binary : Inner → List ℕ → Part → Measured → Grammar Token Measured
one_binary inner operators right a = do k ← one kind operators kind; b ← inner.forms right; gives (binary_form a k b)

abbrev pub binaries : ℕ → Inner → List ℕ → Part → Measured → Grammar Token Measured
binaries n inner operators right a = turns kind operators (λ b. nat_lt b.height n) (one_binary inner operators right) a

-- ("is" | "as") ty (12.12.12, 12.12.13)
abbrev pub test_form : Measured → ℕ → TypeForm → Measured
test_form a k t = raised a.height (cond (k == kw_is) (form.Is a.spot a.form t) (form.As a.spot a.form t)) a.spot

abbrev pub one_test : Inner → Measured → Grammar Token Measured
one_test inner a = do k ← one kind type_tests kind; t ← ty inner.ranks; gives (test_form a k t)

abbrev pub one_relation : Inner → Measured → Grammar Token Measured
one_relation inner a = either kind type_tests (one_test inner a) (one_binary inner comparisons part.Shift a)

abbrev pub relations : ℕ → Inner → Measured → Grammar Token Measured
relations n inner a = turns kind relational_operators (λ b. nat_lt b.height n) (one_relation inner) a

-- The levels (12.4.2), each from its first unary expression on.

-- unary { ("*" | "/" | "%") unary } (12.10)
abbrev pub multiplicative : ℕ → Inner → Measured → Grammar Token Measured
multiplicative n inner a = binaries n inner multiplicative_operators part.Unary a

-- multiplicative { ("+" | "-") multiplicative } (12.10.5, 12.10.6)
abbrev pub additive : ℕ → Inner → Measured → Grammar Token Measured
additive n inner a = do b ← multiplicative n inner a; binaries n inner additive_operators part.Multiplicative b

-- additive { ("<<" | ">>") additive } (12.11)
abbrev pub shift : ℕ → Inner → Measured → Grammar Token Measured
shift n inner a = do b ← additive n inner a; binaries n inner shift_operators part.Additive b

-- shift { ("<" | ">" | "<=" | ">=") shift | ("is" | "as") ty } (12.12)
abbrev pub relational : ℕ → Inner → Measured → Grammar Token Measured
relational n inner a = do b ← shift n inner a; relations n inner b

-- relational { ("==" | "!=") relational } (12.12)
abbrev pub equality : ℕ → Inner → Measured → Grammar Token Measured
equality n inner a = do b ← relational n inner a; binaries n inner equality_operators part.Relational b

-- equality { "&" equality } (12.13)
abbrev pub and : ℕ → Inner → Measured → Grammar Token Measured
and n inner a = do b ← equality n inner a; binaries n inner (amp ∷ []) part.Equality b

-- and { "^" and } (12.13)
abbrev pub exclusive_or : ℕ → Inner → Measured → Grammar Token Measured
exclusive_or n inner a = do b ← and n inner a; binaries n inner (caret ∷ []) part.And b

-- exclusive_or { "|" exclusive_or } (12.13)
abbrev pub inclusive_or : ℕ → Inner → Measured → Grammar Token Measured
inclusive_or n inner a = do b ← exclusive_or n inner a; binaries n inner (bar ∷ []) part.ExclusiveOr b

-- inclusive_or { "&&" inclusive_or } (12.14)
abbrev pub conditional_and : ℕ → Inner → Measured → Grammar Token Measured
conditional_and n inner a = do b ← inclusive_or n inner a; binaries n inner (both ∷ []) part.InclusiveOr b

-- conditional_and { "||" conditional_and } (12.14)
abbrev pub conditional_or : ℕ → Inner → Measured → Grammar Token Measured
conditional_or n inner a = do b ← conditional_and n inner a; binaries n inner (either_one ∷ []) part.ConditionalAnd b

-- "?" expr ":" expr, to the right (12.18)
abbrev pub conditional_of : Measured → Measured → Measured → Measured
conditional_of a b c = raised (max a.height (max b.height c.height)) (form.Conditional a.spot a.form b.form c.form) a.spot

abbrev pub choosing : Inner → Measured → Grammar Token Measured
choosing inner a = do
  _ ← sign question
  b ← inner.forms part.Whole
  _ ← sign colon
  c ← inner.forms part.Whole
  gives (conditional_of a b c)

abbrev pub chosen : ℕ → Inner → Measured → Grammar Token Measured
chosen n inner a = guarded kind (nat_lt a.height n) (question ∷ []) (choosing inner a) (gives a)

-- expr = conditional_or [ "?" expr ":" expr ]
abbrev pub conditional : ℕ → Inner → Measured → Grammar Token Measured
conditional n inner a = do b ← conditional_or n inner a; chosen n inner b

-- What begins with "global" inside parentheses: a type where brackets without an index stand behind its path; a parameter where a
-- name stands behind a type; else an expression.
abbrev pub form_led : Measured → Lead
form_led a = led.Form a

abbrev pub type_led : TypeForm → Lead
type_led t = led.Type t

abbrev pub rest_of_form : ℕ → Inner → Measured → Grammar Token Lead
rest_of_form n inner a = do b ← conditional n inner a; gives (form_led b)

abbrev pub named_led : TypeForm → Grammar Token Lead
named_led t = do name ← any_name; gives (led.Named t name)

-- behind path "[": "]" { "[" "]" }, which makes a type, and maybe a name
abbrev pub array_led : ℕ → ℕ → TypeForm → Grammar Token Lead
array_led blocks limit t = do
  _ ← sign unbracket
  u ← ranks limit (array_of t)
  guarded kind (nat_lt 0 blocks) names (named_led u) (gives (type_led u))

-- behind path "[": an index, and what may stand behind it
abbrev pub index_led : ℕ → Inner → Measured → Grammar Token Lead
index_led n inner a = do
  i ← inner.forms part.Whole
  _ ← sign unbracket
  b ← postfixes n inner (index_of a i)
  rest_of_form n inner b

abbrev pub bracket_led : ℕ → Inner → Spot → List (List ℕ) → Grammar Token Lead
bracket_led n inner s names = do
  _ ← sign bracket
  guarded kind (nat_lt 0 n) expression_kinds (index_led n inner (path_alone s names)) (array_led inner.blocks inner.ranks (global_type s names))

abbrev pub called_led : ℕ → Inner → Spot → List (List ℕ) → Grammar Token Lead
called_led n inner s names = do
  a ← guarded kind (nat_lt 0 n) (paren ∷ []) (called_path n inner s names) (gives (path_alone s names))
  rest_of_form n inner a

abbrev pub unnamed_led : ℕ → Inner → Spot → List (List ℕ) → Grammar Token Lead
unnamed_led n inner s path_names = either kind (bracket ∷ []) (bracket_led n inner s path_names) (called_led n inner s path_names)

abbrev pub path_led : ℕ → Inner → Spot → Grammar Token Lead
path_led n inner s = do
  _ ← sign colons
  path_names ← path
  guarded kind (nat_lt 0 inner.blocks) names (named_led (global_type s path_names)) (unnamed_led n inner s path_names)

abbrev pub name_led : ℕ → Inner → Measured → Grammar Token Lead
name_led n inner g = do a ← postfixes n inner g; rest_of_form n inner a

-- the whole of what begins with `global`
abbrev pub lead : ℕ → Inner → Grammar Token Lead
lead n inner = do
  g ← one kind (global ∷ []) global_leaf
  either kind (colons ∷ []) (path_led n inner g.spot) (name_led n inner g)
