-- Members (ECMA-334, clause 15), each behind its modifiers. Those of reference texts are here too: a method without a block, a
-- constructor that ends with `;`, indexers and operators.
use Rattle.std.specs.Prelude.{ℕ, Bool, true, false, ◌&&◌, List, [], ◌∷◌, ◌++◌, Option, Some, None}
use Rattle.cs_token.specs.Placed.{Placed as Token}
use Rattle.cs_tree.specs.declared.types.Spot.{Spot}
use Rattle.cs_tree.specs.declared.types.Name.{Name}
use Rattle.cs_tree.specs.declared.types.TypeForm.{TypeForm}
use Rattle.cs_tree.specs.declared.types.Param.{Param}
use Rattle.cs_tree.specs.declared.forms.Form.{Form}
use Rattle.cs_tree.specs.declared.forms.Block.{Block}
use Rattle.cs_tree.specs.declared.members.Initial.{Initial}
use Rattle.cs_tree.specs.declared.members.Initial.TheVariants as initial
use Rattle.cs_tree.specs.declared.members.Explicit.{Explicit}
use Rattle.cs_tree.specs.declared.members.Accessor.{Accessor}
use Rattle.cs_tree.specs.declared.members.Member.{Member}
use Rattle.cs_tree.specs.declared.members.Member.TheVariants as member
use Rattle.cs_productions.specs.declared.values.Measured.{Measured}
use Rattle.cs_productions.specs.declared.values.Args.{Args}
use Rattle.cs_productions.specs.declared.values.Part.TheVariants.{Whole}
use Rattle.cs_units.specs.declared.values.Marked.{Marked}
use Rattle.cs_units.specs.declared.values.Implementing.{Implementing}
use Rattle.cs_units.specs.declared.values.Accessors.{Accessors}
use Rattle.cs_grammar.specs.Grammar.{Grammar, gives, one, ◌>>=◌, either, choice, turns}
use Rattle.cs_productions.specs.Kinds.{global, getter, setter, indexer, brace, unbrace, paren, unparen, bracket, unbracket, semicolon, colon, colons, dot, equals, keyword_types, kw_base, kw_this, kw_const, kw_void, kw_operator}
use Rattle.cs_productions.specs.Tokens.{kind, sign, place, name_of, name_text, any_name}
use Rattle.cs_productions.specs.Types.{path, global_type, ranks, type_of_keyword, ty, param, more_params}
use Rattle.cs_productions.specs.Inner.{Inner}
use Rattle.cs_productions.specs.Calls.{arguments}
use Rattle.cs_statements.specs.Kinds.{name_kinds}
use Rattle.cs_statements.specs.Jumps.{some_form, no_value}
use Rattle.cs_statements.specs.Structured.{some_block, no_block}
use Rattle.cs_units.specs.Kinds.{maker_names}
use Rattle.cs_units.specs.Modifiers.{modifiers, unmarked, only_static, start}

-- "(" [ param { "," param } ] ")" (15.6.2)
abbrev pub are_none : List Param → Bool
are_none [] = true
are_none (p ∷ ps) = false

abbrev pub no_params : List Param
no_params = []

abbrev pub one_param : Param → List Param
one_param p = p ∷ []

abbrev pub empty_params : Grammar Token (List Param)
empty_params = do _ ← sign unparen; gives no_params

abbrev pub some_params : ℕ → Grammar Token (List Param)
some_params limit = do
  p ← param limit
  ps ← more_params limit (one_param p)
  _ ← sign unparen
  gives ps

abbrev pub params : ℕ → Grammar Token (List Param)
params limit = do _ ← sign paren; either kind (unparen ∷ []) empty_params (some_params limit)

-- block | ";"
abbrev pub no_body : Grammar Token (Option Block)
no_body = do _ ← sign semicolon; gives no_block

abbrev pub given_body : Inner → Grammar Token (Option Block)
given_body inner = do b ← inner.block; gives (some_block b)

abbrev pub body : Inner → Grammar Token (Option Block)
body inner = either kind (semicolon ∷ []) no_body (given_body inner)

-- [ "=" expr ] ";" behind a field's name (15.5)
abbrev pub first_value : Inner → Grammar Token (Option Form)
first_value inner = do
  _ ← sign equals
  a ← inner.forms Whole
  _ ← sign semicolon
  gives (some_form a)

abbrev pub field_of : Marked → TypeForm → Name → Option Form → Member
field_of m t x value = member.Field (start m t.spot) None m.mods t x value

abbrev pub field : Inner → Marked → TypeForm → Name → Grammar Token Member
field inner m t x = do v ← either kind (equals ∷ []) (first_value inner) no_value; gives (field_of m t x v)

-- "(" params ")" (block | ";") behind a method's name (15.6)
abbrev pub method_of : Spot → Marked → Option TypeForm → Option Explicit → Name → List Param → Option Block → Member
method_of s m result explicit x ps b = member.Method s None m.mods result explicit x ps b

abbrev pub method : Inner → Spot → Marked → Option TypeForm → Option Explicit → Name → Grammar Token Member
method inner s m result explicit x = do
  ps ← params inner.ranks
  b ← body inner
  gives (method_of s m result explicit x ps b)

-- "global" "::" path "." name "(" params ")" (block | ";") behind the `global`: a method that implements one by name (18.6.2)
abbrev pub implementing_first : List ℕ → Name → Implementing
implementing_first first x = record { path = first ∷ []; name = x }

abbrev pub implementing_more : Implementing → Name → Implementing
implementing_more before x = record { path = before.path ++ before.name.text ∷ []; name = x }

abbrev pub one_more_part : Implementing → Grammar Token Implementing
one_more_part before = do _ ← sign dot; x ← any_name; gives (implementing_more before x)

abbrev pub explicit_of : Spot → Implementing → Option Explicit
explicit_of s named = Some (record { spot = s; path = named.path })

abbrev pub implementing : Inner → Spot → Marked → Option TypeForm → Spot → Grammar Token Member
implementing inner s m result at = do
  _ ← sign colons
  first ← name_text
  _ ← sign dot
  x ← any_name
  named ← turns kind (dot ∷ []) (λ _. true) one_more_part (implementing_first first x)
  method inner s m result (explicit_of at named) named.name

-- [mods "get" (block|";")] [mods "set" (block|";")] in braces (15.7.3)
abbrev pub accessor_of : Marked → Spot → Option Block → Accessor
accessor_of m s b = record { spot = start m s; mods = m.mods; block = b }

abbrev pub accessor : Inner → ℕ → Marked → Grammar Token Accessor
accessor inner word m = do s ← place word; b ← body inner; gives (accessor_of m s b)

abbrev pub some_accessor : Accessor → Option Accessor
some_accessor a = Some a

abbrev pub no_accessor : Option Accessor
no_accessor = None

abbrev pub accessors_of : Option Accessor → Option Accessor → Accessors
accessors_of g s = record { getter = g; setter = s }

abbrev pub without_setter : Option Accessor → Grammar Token Accessors
without_setter g = do _ ← sign unbrace; gives (accessors_of g no_accessor)

abbrev pub with_setter : Inner → Option Accessor → Marked → Grammar Token Accessors
with_setter inner g m = do a ← accessor inner setter m; _ ← sign unbrace; gives (accessors_of g (some_accessor a))

abbrev pub behind_getter : Inner → Option Accessor → Marked → Grammar Token Accessors
behind_getter inner g m = choice kind (unmarked m) (unbrace ∷ []) (without_setter g) (with_setter inner g m)

abbrev pub with_getter : Inner → Marked → Grammar Token Accessors
with_getter inner m = do
  a ← accessor inner getter m
  more ← modifiers
  behind_getter inner (some_accessor a) more

abbrev pub first_accessor : Inner → Marked → Grammar Token Accessors
first_accessor inner m = either kind (getter ∷ []) (with_getter inner m) (behind_getter inner no_accessor m)

abbrev pub accessors : Inner → Grammar Token Accessors
accessors inner = do _ ← sign brace; m ← modifiers; first_accessor inner m

abbrev pub property_of : Marked → TypeForm → Name → Accessors → Member
property_of m t x a = member.Property (start m t.spot) None m.mods t x a.getter a.setter

abbrev pub property : Inner → Marked → TypeForm → Name → Grammar Token Member
property inner m t x = do a ← accessors inner; gives (property_of m t x a)

-- behind a type and a name: a field, a method, or a property
abbrev pub behind_name : Inner → Marked → TypeForm → Name → Grammar Token Member
behind_name inner m t x =
    either kind (equals ∷ semicolon ∷ []) (field inner m t x)
    (either kind (paren ∷ []) (method inner (start m t.spot) m (Some t) None x) (property inner m t x))

-- behind a type: a name, or the method of an interface
abbrev pub global_behind : Inner → Marked → TypeForm → Grammar Token Member
global_behind inner m t = do
  x ← one kind (global ∷ []) name_of
  either kind (colons ∷ []) (implementing inner (start m t.spot) m (Some t) x.spot) (behind_name inner m t x)

abbrev pub name_behind : Inner → Marked → TypeForm → Grammar Token Member
name_behind inner m t = do x ← one kind name_kinds name_of; behind_name inner m t x

abbrev pub behind_type : Inner → Marked → TypeForm → Grammar Token Member
behind_type inner m t = either kind (global ∷ []) (global_behind inner m t) (name_behind inner m t)

-- "void" [ "global" "::" path "." ] name "(" params ")" (block | ";")
abbrev pub void_global : Inner → Marked → Spot → Grammar Token Member
void_global inner m s = do
  x ← one kind (global ∷ []) name_of
  either kind (colons ∷ []) (implementing inner (start m s) m None x.spot) (method inner (start m s) m None None x)

abbrev pub void_name : Inner → Marked → Spot → Grammar Token Member
void_name inner m s = do x ← one kind name_kinds name_of; method inner (start m s) m None None x

abbrev pub void_method : Inner → Marked → Grammar Token Member
void_method inner m = do s ← place kw_void; either kind (global ∷ []) (void_global inner m s) (void_name inner m s)

-- "const" ty name "=" expr ";" (15.4)
abbrev pub constant_of : Marked → Spot → TypeForm → Name → Measured → Member
constant_of m s t x a = member.Constant (start m s) None m.mods t x a.form

abbrev pub constant : Inner → Marked → Grammar Token Member
constant inner m = do
  s ← place kw_const
  t ← ty inner.ranks
  x ← any_name
  _ ← sign equals
  a ← inner.forms Whole
  _ ← sign semicolon
  gives (constant_of m s t x a)

-- "operator" ty name "(" params ")" ";", in reference texts (15.10); it has no modifiers
abbrev pub operator_of : Spot → TypeForm → Name → List Param → Member
operator_of s t x ps = member.Operator s t x ps

abbrev pub operator : Inner → Grammar Token Member
operator inner = do
  s ← place kw_operator
  t ← ty inner.ranks
  x ← any_name
  ps ← params inner.ranks
  _ ← sign semicolon
  gives (operator_of s t x ps)

-- ":" ("base" | "this") "(" args ")" block behind the parameters of a constructor (15.11)
abbrev pub base_first : Args → Initial
base_first a = initial.Base a.args

abbrev pub this_first : Args → Initial
this_first a = initial.This a.args

abbrev pub by_base : Inner → Grammar Token Initial
by_base inner = do _ ← sign kw_base; a ← arguments inner; gives (base_first a)

abbrev pub by_this : Inner → Grammar Token Initial
by_this inner = do _ ← sign kw_this; a ← arguments inner; gives (this_first a)

abbrev pub constructor_of : Marked → Name → List Param → Initial → Block → Member
constructor_of m x ps first b = member.Constructor (start m x.spot) None m.mods x ps first b

abbrev pub constructor : Inner → Marked → Name → List Param → Grammar Token Member
constructor inner m x ps = do
  _ ← sign colon
  first ← either kind (kw_base ∷ []) (by_base inner) (by_this inner)
  b ← inner.block
  gives (constructor_of m x ps first b)

-- "static" name "(" ")" block (15.12)
abbrev pub initializer_of : Marked → Name → Block → Member
initializer_of m x b = member.Initializer (start m x.spot) None x b

abbrev pub initializer : Inner → Marked → Name → Grammar Token Member
initializer inner m x = do b ← inner.block; gives (initializer_of m x b)

-- ";", in reference texts
abbrev pub maker_of : Marked → Name → List Param → Member
maker_of m x ps = member.Maker (start m x.spot) m.mods x ps

abbrev pub maker : Marked → Name → List Param → Grammar Token Member
maker m x ps = do _ ← sign semicolon; gives (maker_of m x ps)

-- behind the name of a constructor
abbrev pub behind_params : Inner → Marked → Name → List Param → Grammar Token Member
behind_params inner m x ps =
    either kind (colon ∷ []) (constructor inner m x ps)
    (choice kind (only_static m.mods && are_none ps) (brace ∷ []) (initializer inner m x) (maker m x ps))

abbrev pub constructing : Inner → Marked → Name → Grammar Token Member
constructing inner m x = do ps ← params inner.ranks; behind_params inner m x ps

-- "indexer" ty name "[" ty name "]" accessors, in reference texts (15.9)
abbrev pub indexer_of : Marked → Spot → TypeForm → Name → TypeForm → Name → Accessors → Member
indexer_of m s t x u i a = member.Indexer (start m s) m.mods t x u i a.getter a.setter

abbrev pub indexing : Inner → Marked → Spot → Grammar Token Member
indexing inner m s = do
  t ← ty inner.ranks
  x ← any_name
  _ ← sign bracket
  u ← ty inner.ranks
  i ← any_name
  _ ← sign unbracket
  a ← accessors inner
  gives (indexer_of m s t x u i a)

-- a member by what it begins with: a type, `global` or `indexer`, which may be names too, another name, `void`, `operator`, `const`
abbrev pub keyword_member : Inner → Marked → Grammar Token Member
keyword_member inner m = do t ← type_of_keyword inner.ranks; behind_type inner m t

abbrev pub path_member : Inner → Marked → Spot → Grammar Token Member
path_member inner m s = do
  _ ← sign colons
  path_names ← path
  t ← ranks inner.ranks (global_type s path_names)
  behind_type inner m t

abbrev pub global_member : Inner → Marked → Grammar Token Member
global_member inner m = do
  x ← one kind (global ∷ []) name_of
  either kind (colons ∷ []) (path_member inner m x.spot) (constructing inner m x)

abbrev pub indexer_member : Inner → Marked → Grammar Token Member
indexer_member inner m = do
  x ← one kind (indexer ∷ []) name_of
  either kind (paren ∷ []) (constructing inner m x) (indexing inner m x.spot)

abbrev pub named_member : Inner → Marked → Grammar Token Member
named_member inner m = do x ← one kind maker_names name_of; constructing inner m x

abbrev pub any_member : Inner → Marked → Grammar Token Member
any_member inner m =
    either kind keyword_types (keyword_member inner m)
    (either kind (global ∷ []) (global_member inner m)
    (either kind (indexer ∷ []) (indexer_member inner m)
    (either kind maker_names (named_member inner m)
    (either kind (kw_void ∷ []) (void_method inner m) (choice kind (unmarked m) (kw_operator ∷ []) (operator inner) (constant inner m))))))
