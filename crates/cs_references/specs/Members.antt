-- Members in reference texts (ECMA-334, clause 15), each behind its modifiers: they have no blocks, and no values but those of
-- constants. `limit` is how many pairs of brackets a type may have.
use Rattle.std.specs.Prelude.{ℕ, true, [], ◌∷◌, List, Option, Some, None}
use Rattle.cs_token.specs.Placed.{Placed as Token}
use Rattle.cs_tree.specs.declared.types.Spot.{Spot}
use Rattle.cs_tree.specs.declared.types.Name.{Name}
use Rattle.cs_tree.specs.declared.types.TypeForm.{TypeForm}
use Rattle.cs_tree.specs.declared.types.Param.{Param}
use Rattle.cs_tree.specs.declared.forms.Form.{Form}
use Rattle.cs_tree.specs.declared.forms.Form.TheVariants as form
use Rattle.cs_tree.specs.declared.forms.UnaryOp.TheVariants.{Minus}
use Rattle.cs_tree.specs.declared.members.Explicit.{Explicit}
use Rattle.cs_tree.specs.declared.members.Accessor.{Accessor}
use Rattle.cs_tree.specs.declared.members.Member.{Member}
use Rattle.cs_tree.specs.declared.members.Member.TheVariants as member
use Rattle.cs_grammar.specs.Grammar.{Grammar, gives, one, ◌>>=◌, either, choice, turns}
use Rattle.cs_productions.specs.Kinds.{global, getter, setter, indexer, number, brace, unbrace, paren, unparen, bracket, unbracket, semicolon, colons, dot, equals, minus, keyword_types, kw_const, kw_void, kw_operator}
use Rattle.cs_productions.specs.Tokens.{kind, sign, place, spot_of, name_of, name_text, any_name, literal_of}
use Rattle.cs_productions.specs.Types.{path, global_type, ranks, type_of_keyword, ty}
use Rattle.cs_statements.specs.Kinds.{name_kinds, literal_kinds}
use Rattle.cs_statements.specs.Jumps.{no_value}
use Rattle.cs_statements.specs.Structured.{no_block}
use Rattle.cs_units.specs.declared.values.Marked.{Marked}
use Rattle.cs_units.specs.declared.values.Accessors.{Accessors}
use Rattle.cs_units.specs.Kinds.{maker_names}
use Rattle.cs_units.specs.Modifiers.{modifiers, unmarked, start}
use Rattle.cs_units.specs.Members.{params, field_of, method_of, implementing_first, one_more_part, explicit_of, accessor_of, some_accessor, no_accessor, accessors_of, without_setter, property_of, indexer_of, operator_of, maker}

-- ---- constants

-- literal | "-" number (6.4.5, 12.9.3)
abbrev pub literal_form : Token → Form
literal_form t = form.Literal (spot_of t) (literal_of t.lexeme)

abbrev pub literal : Grammar Token Form
literal = one kind literal_kinds literal_form

abbrev pub any_number : Grammar Token Form
any_number = one kind (number ∷ []) literal_form

abbrev pub negative_of : Spot → Form → Form
negative_of s a = form.Unary s Minus a

abbrev pub negative : Grammar Token Form
negative = do s ← place minus; a ← any_number; gives (negative_of s a)

-- "(" ty ")" (literal | "(" "-" number ")") (12.9.7)
abbrev pub enclosed : Grammar Token Form
enclosed = do
  s ← place paren
  _ ← sign minus
  a ← any_number
  _ ← sign unparen
  gives (negative_of s a)

abbrev pub cast_of : Spot → TypeForm → Form → Form
cast_of s t a = form.Cast s t a

abbrev pub cast : ℕ → Grammar Token Form
cast limit = do
  s ← place paren
  t ← ty limit
  _ ← sign unparen
  a ← either kind literal_kinds literal enclosed
  gives (cast_of s t a)

-- literal | "-" number | "(" ty ")" (literal | "(" "-" number ")")
abbrev pub value : ℕ → Grammar Token Form
value limit = either kind literal_kinds literal (either kind (minus ∷ []) negative (cast limit))

-- "const" ty name "=" value ";" (15.4)
abbrev pub constant_of : Marked → Spot → TypeForm → Name → Form → Member
constant_of m s t x a = member.Constant (start m s) None m.mods t x a

abbrev pub constant : ℕ → Marked → Grammar Token Member
constant limit m = do
  s ← place kw_const
  t ← ty limit
  x ← any_name
  _ ← sign equals
  a ← value limit
  _ ← sign semicolon
  gives (constant_of m s t x a)

-- ---- fields and methods

-- ";" behind a field's name (15.5)
abbrev pub field : Marked → TypeForm → Name → Grammar Token Member
field m t x = do v ← no_value; gives (field_of m t x v)

-- "(" params ")" ";" behind a method's name (15.6)
abbrev pub method : ℕ → Spot → Marked → Option TypeForm → Option Explicit → Name → Grammar Token Member
method limit s m result explicit x = do
  ps ← params limit
  _ ← sign semicolon
  gives (method_of s m result explicit x ps no_block)

-- "global" "::" path "." name "(" params ")" ";" behind the `global`: a method that implements one by name (18.6.2)
abbrev pub implementing : ℕ → Spot → Marked → Option TypeForm → Spot → Grammar Token Member
implementing limit s m result at = do
  _ ← sign colons
  first ← name_text
  _ ← sign dot
  x ← any_name
  named ← turns kind (dot ∷ []) (λ _. true) one_more_part (implementing_first first x)
  method limit s m result (explicit_of at named) named.name

-- ---- properties

-- [mods "get" ";"] [mods "set" ";"] in braces (15.7.3)
abbrev pub accessor : ℕ → Marked → Grammar Token Accessor
accessor word m = do s ← place word; _ ← sign semicolon; gives (accessor_of m s no_block)

abbrev pub with_setter : Option Accessor → Marked → Grammar Token Accessors
with_setter g m = do a ← accessor setter m; _ ← sign unbrace; gives (accessors_of g (some_accessor a))

abbrev pub behind_getter : Option Accessor → Marked → Grammar Token Accessors
behind_getter g m = choice kind (unmarked m) (unbrace ∷ []) (without_setter g) (with_setter g m)

abbrev pub with_getter : Marked → Grammar Token Accessors
with_getter m = do
  a ← accessor getter m
  more ← modifiers
  behind_getter (some_accessor a) more

abbrev pub first_accessor : Marked → Grammar Token Accessors
first_accessor m = either kind (getter ∷ []) (with_getter m) (behind_getter no_accessor m)

abbrev pub accessors : Grammar Token Accessors
accessors = do _ ← sign brace; m ← modifiers; first_accessor m

abbrev pub property : Marked → TypeForm → Name → Grammar Token Member
property m t x = do a ← accessors; gives (property_of m t x a)

-- ---- by what stands first

-- behind a type and a name: a field, a method, or a property
abbrev pub behind_name : ℕ → Marked → TypeForm → Name → Grammar Token Member
behind_name limit m t x =
    either kind (semicolon ∷ []) (field m t x)
    (either kind (paren ∷ []) (method limit (start m t.spot) m (Some t) None x) (property m t x))

-- behind a type: a name, or the method of an interface
abbrev pub global_behind : ℕ → Marked → TypeForm → Grammar Token Member
global_behind limit m t = do
  x ← one kind (global ∷ []) name_of
  either kind (colons ∷ []) (implementing limit (start m t.spot) m (Some t) x.spot) (behind_name limit m t x)

abbrev pub name_behind : ℕ → Marked → TypeForm → Grammar Token Member
name_behind limit m t = do x ← one kind name_kinds name_of; behind_name limit m t x

abbrev pub behind_type : ℕ → Marked → TypeForm → Grammar Token Member
behind_type limit m t = either kind (global ∷ []) (global_behind limit m t) (name_behind limit m t)

-- "void" [ "global" "::" path "." ] name "(" params ")" ";"
abbrev pub void_global : ℕ → Marked → Spot → Grammar Token Member
void_global limit m s = do
  x ← one kind (global ∷ []) name_of
  either kind (colons ∷ []) (implementing limit (start m s) m None x.spot) (method limit (start m s) m None None x)

abbrev pub void_name : ℕ → Marked → Spot → Grammar Token Member
void_name limit m s = do x ← one kind name_kinds name_of; method limit (start m s) m None None x

abbrev pub void_method : ℕ → Marked → Grammar Token Member
void_method limit m = do s ← place kw_void; either kind (global ∷ []) (void_global limit m s) (void_name limit m s)

-- "operator" ty name "(" params ")" ";" (15.10); it has no modifiers
abbrev pub operator : ℕ → Grammar Token Member
operator limit = do
  s ← place kw_operator
  t ← ty limit
  x ← any_name
  ps ← params limit
  _ ← sign semicolon
  gives (operator_of s t x ps)

-- "(" params ")" ";" behind the name of a constructor (15.11)
abbrev pub constructing : ℕ → Marked → Name → Grammar Token Member
constructing limit m x = do ps ← params limit; maker m x ps

-- "indexer" ty name "[" ty name "]" accessors (15.9)
abbrev pub indexing : ℕ → Marked → Spot → Grammar Token Member
indexing limit m s = do
  t ← ty limit
  x ← any_name
  _ ← sign bracket
  u ← ty limit
  i ← any_name
  _ ← sign unbracket
  a ← accessors
  gives (indexer_of m s t x u i a)

-- a type, `global` or `indexer`, which may be names too, another name, `void`, `operator`, `const`
abbrev pub keyword_member : ℕ → Marked → Grammar Token Member
keyword_member limit m = do t ← type_of_keyword limit; behind_type limit m t

abbrev pub path_member : ℕ → Marked → Spot → Grammar Token Member
path_member limit m s = do
  _ ← sign colons
  path_names ← path
  t ← ranks limit (global_type s path_names)
  behind_type limit m t

abbrev pub global_member : ℕ → Marked → Grammar Token Member
global_member limit m = do
  x ← one kind (global ∷ []) name_of
  either kind (colons ∷ []) (path_member limit m x.spot) (constructing limit m x)

abbrev pub indexer_member : ℕ → Marked → Grammar Token Member
indexer_member limit m = do
  x ← one kind (indexer ∷ []) name_of
  either kind (paren ∷ []) (constructing limit m x) (indexing limit m x.spot)

abbrev pub named_member : ℕ → Marked → Grammar Token Member
named_member limit m = do x ← one kind maker_names name_of; constructing limit m x

abbrev pub any_member : ℕ → Marked → Grammar Token Member
any_member limit m =
    either kind keyword_types (keyword_member limit m)
    (either kind (global ∷ []) (global_member limit m)
    (either kind (indexer ∷ []) (indexer_member limit m)
    (either kind maker_names (named_member limit m)
    (either kind (kw_void ∷ []) (void_method limit m) (choice kind (unmarked m) (kw_operator ∷ []) (operator limit) (constant limit m))))))
