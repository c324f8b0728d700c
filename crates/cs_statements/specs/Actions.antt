-- Declarations, assignments and calls as statements (ECMA-334, 12.21, 13.6.2, 13.7).
use Rattle.std.specs.Prelude.{ℕ, true, false, Bool, cond, ◌==◌, List, [], ◌∷◌, nat_lt}
use Rattle.cs_token.specs.Placed.{Placed as Token}
use Rattle.cs_tree.specs.declared.types.Spot.{Spot}
use Rattle.cs_tree.specs.declared.types.Name.{Name}
use Rattle.cs_tree.specs.declared.types.TypeForm.{TypeForm}
use Rattle.cs_tree.specs.declared.forms.AssignOp.{AssignOp}
use Rattle.cs_tree.specs.declared.forms.AssignOp.TheVariants as assign_op
use Rattle.cs_tree.specs.declared.forms.Action.{Action}
use Rattle.cs_tree.specs.declared.forms.Action.TheVariants as action
use Rattle.cs_tree.specs.declared.forms.Syntax.{Syntax}
use Rattle.cs_tree.specs.declared.forms.Syntax.TheVariants as syntax
use Rattle.cs_productions.specs.declared.values.Measured.{Measured}
use Rattle.cs_productions.specs.declared.values.Part.TheVariants.{Whole}
use Rattle.cs_grammar.specs.Grammar.{Grammar, gives, one, ◌>>=◌, either, guarded}
use Rattle.cs_productions.specs.Kinds.{names, global, paren, unparen, bracket, unbracket, equals, colon, colons, semicolon, expression_kinds, counted_kinds, kw_base, kw_new, kw_default, plus_equals, minus_equals, times_equals, amp_equals, bar_equals}
use Rattle.cs_productions.specs.Tokens.{kind, sign, place, spot_of, text_of, any_name, simple_of}
use Rattle.cs_productions.specs.Types.{path, global_type, array_of, ranks, type_of_keyword}
use Rattle.cs_productions.specs.Inner.{Inner}
use Rattle.cs_productions.specs.Calls.{postfixes, index_of}
use Rattle.cs_productions.specs.Primaries.{of_base, path_alone, called_path, global_leaf, of_global, of_new, of_default, of_checked}
use Rattle.cs_productions.specs.Operators.{in_parentheses}
use Rattle.cs_statements.specs.Kinds.{name_kinds, unnamed_kinds, compound_operators}
use Rattle.cs_statements.specs.Jumps.{expression, labelled}

-- ty name "=" expr ";", behind the type
abbrev pub declare_of : TypeForm → Name → Measured → Syntax
declare_of t x a = syntax.Declare t.spot t x a.form

abbrev pub declared : ℕ → Inner → TypeForm → Grammar Token Syntax
declared n inner t = do
  x ← any_name
  _ ← sign equals
  a ← expression n inner
  _ ← sign semicolon
  gives (declare_of t x a)

abbrev pub keyword_declared : ℕ → Inner → Grammar Token Syntax
keyword_declared n inner = do t ← type_of_keyword inner.ranks; declared n inner t

-- place "=" expr | place op"=" expr | call, behind the place or the call, and up to the sign behind it
abbrev pub compound_of : ℕ → AssignOp
compound_of k =
    cond (k == plus_equals) assign_op.Add
    (cond (k == minus_equals) assign_op.Sub
    (cond (k == times_equals) assign_op.Mul
    (cond (k == amp_equals) assign_op.BitAnd (cond (k == bar_equals) assign_op.BitOr assign_op.BitXor))))

abbrev pub assign_of : Measured → Measured → Action
assign_of p a = action.Assign p.form a.form

abbrev pub compound_assign_of : Measured → ℕ → Measured → Action
compound_assign_of p k a = action.Compound (compound_of k) p.form a.form

abbrev pub invoke_of : Measured → Action
invoke_of p = action.Invoke p.form

abbrev pub assigned : ℕ → Inner → Measured → Grammar Token Action
assigned n inner p = do _ ← sign equals; a ← expression n inner; gives (assign_of p a)

abbrev pub compounded : ℕ → Inner → Measured → Grammar Token Action
compounded n inner p = do k ← one kind compound_operators kind; a ← expression n inner; gives (compound_assign_of p k a)

abbrev pub set_to : ℕ → Inner → Measured → Grammar Token Action
set_to n inner p = either kind (equals ∷ []) (assigned n inner p) (compounded n inner p)

abbrev pub acted : ℕ → Inner → Bool → Measured → Grammar Token Action
acted n inner true p = either kind (equals ∷ compound_operators) (set_to n inner p) (gives (invoke_of p))
acted n inner false p = set_to n inner p

abbrev pub action_to : ℕ → Inner → ℕ → Bool → Measured → Grammar Token Action
action_to n inner end is_call p = do a ← acted n inner is_call p; _ ← sign end; gives a

abbrev pub act : ℕ → Inner → Measured → Grammar Token Syntax
act n inner p = do a ← action_to n inner semicolon p.is_call p; gives (syntax.Act p.spot a)

-- What a place or a call begins with: a primary expression. A statement doesn't begin with a lambda, as C# has none that goes on.
abbrev pub parenthesized : ℕ → Inner → Grammar Token Measured
parenthesized n inner = do
  s ← place paren
  a ← inner.forms Whole
  _ ← sign unparen
  postfixes n inner (in_parentheses s a)

abbrev pub counted_primary : ℕ → Inner → Grammar Token Measured
counted_primary n inner =
    either kind (paren ∷ []) (parenthesized n inner)
    (either kind (kw_new ∷ []) (of_new n inner) (either kind (kw_default ∷ []) (of_default n inner) (of_checked n inner)))

abbrev pub of_unnamed : ℕ → Inner → Grammar Token Measured
of_unnamed n inner = do a ← one kind unnamed_kinds simple_of; postfixes n inner a

abbrev pub unnamed_primary : ℕ → Inner → Grammar Token Measured
unnamed_primary n inner =
    guarded kind (nat_lt 0 n) counted_kinds (counted_primary n inner) (either kind (kw_base ∷ []) (of_base n inner) (of_unnamed n inner))

abbrev pub of_named : ℕ → Inner → Grammar Token Measured
of_named n inner = do a ← one kind name_kinds simple_of; postfixes n inner a

abbrev pub primary : ℕ → Inner → Grammar Token Measured
primary n inner = either kind (global ∷ []) (of_global n inner) (either kind name_kinds (of_named n inner) (unnamed_primary n inner))

abbrev pub primary_act : ℕ → Inner → Grammar Token Syntax
primary_act n inner = do p ← unnamed_primary n inner; act n inner p

abbrev pub postfix_act : ℕ → Inner → Measured → Grammar Token Syntax
postfix_act n inner a = do p ← postfixes n inner a; act n inner p

-- what begins with a name: a label, or a place or a call
abbrev pub named_statement : ℕ → Inner → Grammar Token Syntax
named_statement n inner = do
  t ← one kind name_kinds (λ t. t)
  either kind (colon ∷ []) (labelled (spot_of t) (text_of t)) (postfix_act n inner (simple_of t))

-- What begins with `global`: a label; behind a path a declaration where a name stands, or brackets without an index; else a place or
-- a call
abbrev pub index_act : ℕ → Inner → Measured → Grammar Token Syntax
index_act n inner a = do
  i ← inner.forms Whole
  _ ← sign unbracket
  postfix_act n inner (index_of a i)

abbrev pub array_declared : ℕ → Inner → TypeForm → Grammar Token Syntax
array_declared n inner t = do _ ← sign unbracket; u ← ranks inner.ranks (array_of t); declared n inner u

abbrev pub bracket_statement : ℕ → Inner → Spot → List (List ℕ) → Grammar Token Syntax
bracket_statement n inner s path_names = do
  _ ← sign bracket
  guarded kind (nat_lt 0 n) expression_kinds (index_act n inner (path_alone s path_names)) (array_declared n inner (global_type s path_names))

abbrev pub called_or_alone : ℕ → Inner → Spot → List (List ℕ) → Grammar Token Measured
called_or_alone n inner s path_names = guarded kind (nat_lt 0 n) (paren ∷ []) (called_path n inner s path_names) (gives (path_alone s path_names))

abbrev pub path_act : ℕ → Inner → Spot → List (List ℕ) → Grammar Token Syntax
path_act n inner s path_names = do p ← called_or_alone n inner s path_names; act n inner p

abbrev pub path_statement : ℕ → Inner → Spot → Grammar Token Syntax
path_statement n inner s = do
  _ ← sign colons
  path_names ← path
  either kind names (declared n inner (global_type s path_names)) (either kind (bracket ∷ []) (bracket_statement n inner s path_names) (path_act n inner s path_names))

abbrev pub global_statement : ℕ → Inner → Grammar Token Syntax
global_statement n inner = do
  t ← one kind (global ∷ []) (λ t. t)
  either kind (colon ∷ []) (labelled (spot_of t) (text_of t)) (either kind (colons ∷ []) (path_statement n inner (spot_of t)) (postfix_act n inner (global_leaf t)))
