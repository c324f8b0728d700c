-- Arguments and what stands behind a primary expression (ECMA-334, 12.6.2, 12.8.7, 12.8.10, 12.8.12). The number `n` says how many
-- levels there may be.
use Rattle.std.specs.Prelude.{ℕ, ◌+◌, max, true, false, [], ◌∷◌, ◌++◌, nat_lt}
use Rattle.cs_token.specs.Placed.{Placed as Token}
use Rattle.cs_tree.specs.declared.types.Spot.{Spot}
use Rattle.cs_tree.specs.declared.types.Name.{Name}
use Rattle.cs_tree.specs.declared.types.Way.{Way}
use Rattle.cs_tree.specs.declared.forms.Arg.{Arg}
use Rattle.cs_tree.specs.declared.forms.Form.{Form}
use Rattle.cs_tree.specs.declared.forms.Form.TheVariants as form
use Rattle.cs_productions.specs.declared.values.Measured.{Measured}
use Rattle.cs_productions.specs.declared.values.Args.{Args}
use Rattle.cs_productions.specs.declared.values.Part.TheVariants.{Whole}
use Rattle.cs_grammar.specs.Grammar.{Grammar, gives, ◌>>=◌, either, guarded, turns}
use Rattle.cs_productions.specs.Kinds.{paren, unparen, bracket, unbracket, comma, dot}
use Rattle.cs_productions.specs.Tokens.{kind, sign, any_name}
use Rattle.cs_productions.specs.Types.{way}
use Rattle.cs_productions.specs.Inner.{Inner}

-- arg = ["ref" | "out"] expr (12.6.2), behind those that stand before it
abbrev pub arg_of : Way → Form → Arg
arg_of w f = record { way = w; form = f }

abbrev pub with_arg : Args → Way → Measured → Args
with_arg before w a = record { args = before.args ++ arg_of w a.form ∷ []; height = max before.height a.height }

abbrev pub no_args : Args
no_args = record { args = []; height = 0 }

abbrev pub one_arg : Inner → Args → Grammar Token Args
one_arg inner before = do w ← way; a ← inner.forms Whole; gives (with_arg before w a)

abbrev pub one_more_arg : Inner → Args → Grammar Token Args
one_more_arg inner before = do _ ← sign comma; one_arg inner before

-- [ arg { "," arg } ] ")"
abbrev pub no_more_args : Grammar Token Args
no_more_args = do _ ← sign unparen; gives no_args

abbrev pub some_args : Inner → Grammar Token Args
some_args inner = do
  first ← one_arg inner no_args
  all ← turns kind (comma ∷ []) (λ _. true) (one_more_arg inner) first
  _ ← sign unparen
  gives all

-- "(" [ arg { "," arg } ] ")"
abbrev pub arguments : Inner → Grammar Token Args
arguments inner = do _ ← sign paren; either kind (unparen ∷ []) no_more_args (some_args inner)

-- one level above another, and the same with arguments at its end
abbrev pub raised : ℕ → Form → Spot → Measured
raised h f s = record { form = f; height = h + 1; spot = s; is_call = false }

abbrev pub raised_call : ℕ → Form → Spot → Measured
raised_call h f s = record { form = f; height = h + 1; spot = s; is_call = true }

-- a member of an expression, and its call
abbrev pub member_of : Measured → Name → Measured
member_of a n = raised a.height (form.Member a.spot a.form n) a.spot

abbrev pub call_of : Measured → Name → Args → Measured
call_of a n args = raised_call (max (a.height + 1) args.height) (form.Call a.spot a.form n args.args) a.spot

-- "(" args ")", which makes a call of what has this height, or nothing
abbrev pub called : ℕ → Inner → ℕ → (Args → Measured) → Measured → Grammar Token Measured
called n inner h call else =
    guarded kind (nat_lt h n) (paren ∷ []) (do args ← arguments inner; gives (call args)) (gives else)

-- "." name ["(" args ")"] (12.8.7, 12.8.10)
abbrev pub one_member : ℕ → Inner → Measured → Grammar Token Measured
one_member n inner a = do _ ← sign dot; name ← any_name; called n inner (a.height + 1) (call_of a name) (member_of a name)

-- "[" expr "]" (12.8.12)
abbrev pub index_of : Measured → Measured → Measured
index_of a i = raised (max a.height i.height) (form.Index a.spot a.form i.form) a.spot

abbrev pub one_index : Inner → Measured → Grammar Token Measured
one_index inner a = do _ ← sign bracket; i ← inner.forms Whole; _ ← sign unbracket; gives (index_of a i)

-- { "." name ["(" args ")"] | "[" expr "]" }
abbrev pub one_postfix : ℕ → Inner → Measured → Grammar Token Measured
one_postfix n inner a = either kind (dot ∷ []) (one_member n inner a) (one_index inner a)

abbrev pub postfixes : ℕ → Inner → Measured → Grammar Token Measured
postfixes n inner a = turns kind (dot ∷ bracket ∷ []) (λ b. nat_lt b.height n) (one_postfix n inner) a
