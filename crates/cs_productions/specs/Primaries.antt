-- Primary expressions without parentheses (ECMA-334, 12.8).
use Rattle.std.specs.Prelude.{ℕ, ◌-◌, List, [], ◌∷◌, ◌==◌, cond, nat_lt}
use Rattle.cs_token.specs.Placed.{Placed as Token}
use Rattle.cs_tree.specs.declared.types.Spot.{Spot}
use Rattle.cs_tree.specs.declared.types.Name.{Name}
use Rattle.cs_tree.specs.declared.types.TypeForm.{TypeForm}
use Rattle.cs_tree.specs.declared.forms.Form.TheVariants as form
use Rattle.cs_productions.specs.declared.values.Measured.{Measured}
use Rattle.cs_productions.specs.declared.values.Args.{Args}
use Rattle.cs_productions.specs.declared.values.Part.TheVariants.{Whole}
use Rattle.cs_grammar.specs.Grammar.{Grammar, gives, one, ◌>>=◌, either, guarded}
use Rattle.cs_productions.specs.Kinds.{paren, unparen, bracket, unbracket, dot, colons, global, kw_base, kw_new, kw_default, kw_checked, kw_unchecked}
use Rattle.cs_productions.specs.Tokens.{kind, sign, place, spot_of, any_name, text_of, leaf, simple}
use Rattle.cs_productions.specs.Types.{path, named_type, ranks, ty}
use Rattle.cs_productions.specs.Inner.{Inner}
use Rattle.cs_productions.specs.Calls.{arguments, raised, raised_call, called, one_member, one_index, postfixes}

-- "base" "." name ["(" args ")"] (12.8.15)
abbrev pub base_call : Spot → Name → Args → Measured
base_call s n args = raised_call args.height (form.BaseCall s n args.args) s

abbrev pub of_base : ℕ → Inner → Grammar Token Measured
of_base n inner = do
  s ← place kw_base
  _ ← sign dot
  name ← any_name
  a ← called n inner 0 (base_call s name) (leaf (form.BaseMember s name) s)
  postfixes n inner a

-- Behind "global" "::" path: ["(" args ")"], and what may stand behind these. A path takes all names that it can, so what may
-- stand behind it is no further name, but an index.
abbrev pub global_call : Spot → List (List ℕ) → Args → Measured
global_call s names args = raised_call args.height (form.GlobalCall s names args.args) s

abbrev pub called_path : ℕ → Inner → Spot → List (List ℕ) → Grammar Token Measured
called_path n inner s names = do args ← arguments inner; postfixes n inner (global_call s names args)

abbrev pub indexed : ℕ → Inner → Measured → Grammar Token Measured
indexed n inner a = do b ← one_index inner a; postfixes n inner b

abbrev pub path_alone : Spot → List (List ℕ) → Measured
path_alone s names = leaf (form.Global s names) s

abbrev pub behind_path : ℕ → Inner → Spot → List (List ℕ) → Grammar Token Measured
behind_path n inner s names =
    guarded kind (nat_lt 0 n) (paren ∷ []) (called_path n inner s names)
    (guarded kind (nat_lt 0 n) (bracket ∷ []) (indexed n inner (path_alone s names)) (gives (path_alone s names)))

-- "global" "::" path ["(" args ")"], or the name `global` alone
abbrev pub global_path : ℕ → Inner → Spot → Grammar Token Measured
global_path n inner s = do _ ← sign colons; names ← path; behind_path n inner s names

abbrev pub global_leaf : Token → Measured
global_leaf t = leaf (form.Name (spot_of t) (text_of t)) (spot_of t)

abbrev pub of_global : ℕ → Inner → Grammar Token Measured
of_global n inner = do
  g ← one kind (global ∷ []) global_leaf
  either kind (colons ∷ []) (global_path n inner g.spot) (postfixes n inner g)

-- "new" ty "(" args ")" (12.8.17); the type has no brackets of its own
abbrev pub new_object : Spot → TypeForm → Args → Measured
new_object s t args = raised_call args.height (form.New s t.name args.args) s

abbrev pub of_new_object : ℕ → Inner → Spot → TypeForm → Grammar Token Measured
of_new_object n inner s t = do args ← arguments inner; postfixes n inner (new_object s t args)

-- "new" ty "[" expr "]" { "[" "]" } (12.8.17). The element of a new array is taken of it in parentheses alone (12.8.12), so what
-- may stand behind it is a member.
abbrev pub new_array : Spot → TypeForm → Measured → Measured
new_array s t length = raised length.height (form.NewArray s t length.form) s

abbrev pub with_member : ℕ → Inner → Measured → Grammar Token Measured
with_member n inner a = do b ← one_member n inner a; postfixes n inner b

abbrev pub behind_array : ℕ → Inner → Measured → Grammar Token Measured
behind_array n inner a = guarded kind (nat_lt a.height n) (dot ∷ []) (with_member n inner a) (gives a)

abbrev pub of_new_array : ℕ → Inner → Spot → TypeForm → Grammar Token Measured
of_new_array n inner s t = do
  _ ← sign bracket
  length ← inner.forms Whole
  _ ← sign unbracket
  element ← ranks (inner.ranks - 1) t
  behind_array n inner (new_array s element length)

abbrev pub of_new : ℕ → Inner → Grammar Token Measured
of_new n inner = do
  s ← place kw_new
  t ← named_type
  either kind (paren ∷ []) (of_new_object n inner s t) (of_new_array n inner s t)

-- "default" "(" ty ")" (12.8.21)
abbrev pub default_of : Spot → TypeForm → Measured
default_of s t = raised 0 (form.Default s t) s

abbrev pub of_default : ℕ → Inner → Grammar Token Measured
of_default n inner = do
  s ← place kw_default
  _ ← sign paren
  t ← ty inner.ranks
  _ ← sign unparen
  postfixes n inner (default_of s t)

-- ("checked" | "unchecked") "(" expr ")" (12.8.20)
abbrev pub checked_of : Token → Measured → Measured
checked_of t a = raised a.height (cond (kind t == kw_checked) (form.Checked (spot_of t) a.form) (form.Unchecked (spot_of t) a.form)) (spot_of t)

abbrev pub of_checked : ℕ → Inner → Grammar Token Measured
of_checked n inner = do
  t ← one kind (kw_checked ∷ kw_unchecked ∷ []) (λ t. t)
  _ ← sign paren
  a ← inner.forms Whole
  _ ← sign unparen
  postfixes n inner (checked_of t a)

-- name | literal | "this" (12.8.2, 12.8.4, 12.8.14), and what may stand behind it
abbrev pub of_simple : ℕ → Inner → Grammar Token Measured
of_simple n inner = do a ← simple; postfixes n inner a
