-- Types and whole texts (ECMA-334, 14.2, 14.3, 15.2, 16, 18, 19 and 20). Types stand in one another: a number says how many may be
-- open in a type from here on.
use Rattle.std.specs.Prelude.{ℕ, zero, suc, ◌+◌, Bool, true, false, cond, ◌==◌, List, [], ◌∷◌, ◌++◌, Option, Some, None, is_some}
use Rattle.cs_token.specs.Placed.{Placed as Token}
use Rattle.cs_token.specs.declared.lexeme.Lexeme.{Lexeme}
use Rattle.cs_token.specs.declared.lexeme.Lexeme.TheVariants as lexeme
use Rattle.cs_tree.specs.declared.types.Spot.{Spot}
use Rattle.cs_tree.specs.declared.types.Name.{Name}
use Rattle.cs_tree.specs.declared.types.Path.{Path}
use Rattle.cs_tree.specs.declared.types.TypeForm.{TypeForm}
use Rattle.cs_tree.specs.declared.types.Param.{Param}
use Rattle.cs_tree.specs.declared.declarations.Enumerator.{Enumerator}
use Rattle.cs_tree.specs.declared.declarations.Kind.{Kind}
use Rattle.cs_tree.specs.declared.declarations.Kind.TheVariants.{Class, Interface, Struct}
use Rattle.cs_tree.specs.declared.declarations.Item.{Item}
use Rattle.cs_tree.specs.declared.declarations.Item.TheVariants as stands
use Rattle.cs_tree.specs.declared.declarations.Decl.{Decl}
use Rattle.cs_tree.specs.declared.declarations.Decl.TheVariants as decl
use Rattle.cs_tree.specs.declared.declarations.Space.{Space}
use Rattle.cs_tree.specs.declared.declarations.Space.TheVariants as space
use Rattle.cs_tree.specs.declared.declarations.Unit.{Unit as WholeText}
use Rattle.cs_units.specs.declared.values.Marked.{Marked}
use Rattle.cs_grammar.specs.Grammar.{Grammar, gives, one, ◌>>=◌, either, guarded, turns}
use Rattle.cs_productions.specs.Kinds.{names, number, brace, unbrace, comma, semicolon, colon, dot, equals, minus, kw_class, kw_interface, kw_enum, kw_delegate, kw_void, kw_namespace}
use Rattle.cs_productions.specs.Tokens.{kind, sign, place, spot_of, any_name, name_text}
use Rattle.cs_productions.specs.Types.{ty}
use Rattle.cs_productions.specs.Inner.{Inner}
use Rattle.cs_productions.specs.Levels.{below}
use Rattle.cs_statements.specs.Blocks.{block_at}
use Rattle.cs_units.specs.Kinds.{body_kinds, type_words, decl_kinds, item_kinds}
use Rattle.cs_units.specs.Modifiers.{flag, modifiers, start}
use Rattle.cs_units.specs.Members.{params, any_member}

-- [ ":" ty { "," ty } ]
abbrev pub no_bases : List TypeForm
no_bases = []

abbrev pub first_base : TypeForm → List TypeForm
first_base t = t ∷ []

abbrev pub one_more_base : ℕ → List TypeForm → Grammar Token (List TypeForm)
one_more_base limit bases = do _ ← sign comma; t ← ty limit; gives (bases ++ t ∷ [])

abbrev pub given_bases : ℕ → Grammar Token (List TypeForm)
given_bases limit = do
  _ ← sign colon
  t ← ty limit
  turns kind (comma ∷ []) (λ _. true) (one_more_base limit) (first_base t)

abbrev pub bases : ℕ → Grammar Token (List TypeForm)
bases limit = either kind (colon ∷ []) (given_bases limit) (gives no_bases)

-- ("class" | "interface" | "struct") name [":" ty {"," ty}] "{" { item } "}" (15.2, 16.2, 18.2)
abbrev pub kind_of_body : ℕ → Kind
kind_of_body k = cond (k == kw_class) Class (cond (k == kw_interface) Interface Struct)

abbrev pub one_more_item : Grammar Token Item → List Item → Grammar Token (List Item)
one_more_item item items = do i ← item; gives (items ++ i ∷ [])

abbrev pub body_of : Marked → Token → Name → List TypeForm → List Item → Decl
body_of m t x ts items = decl.Body (start m (spot_of t)) None m.mods (kind_of_body (kind t)) x ts items

abbrev pub body_type : Inner → Grammar Token Item → Marked → Grammar Token Decl
body_type inner item m = do
  t ← one kind body_kinds (λ t. t)
  x ← any_name
  ts ← bases inner.ranks
  _ ← sign brace
  items ← turns kind item_kinds (λ _. true) (one_more_item item) []
  _ ← sign unbrace
  gives (body_of m t x ts items)

-- "enum" name ":" ty "{" { name "=" ["-"] number "," } "}" (19.2); numbers have no suffix
abbrev pub number_of_lexeme : Lexeme → ℕ
number_of_lexeme (lexeme.Number n s) = n
number_of_lexeme _ = 0

abbrev pub number_of_token : Token → ℕ
number_of_token t = number_of_lexeme t.lexeme

abbrev pub enumerator_of : Name → Option Spot → ℕ → Enumerator
enumerator_of x negative n = record { name = x; negative = is_some negative; value = n }

abbrev pub enumerator : Grammar Token Enumerator
enumerator = do
  x ← any_name
  _ ← sign equals
  negative ← flag minus
  n ← one kind (number ∷ []) number_of_token
  _ ← sign comma
  gives (enumerator_of x negative n)

abbrev pub one_more_enumerator : List Enumerator → Grammar Token (List Enumerator)
one_more_enumerator es = do e ← enumerator; gives (es ++ e ∷ [])

abbrev pub enum_of : Marked → Spot → Name → TypeForm → List Enumerator → Decl
enum_of m s x t es = decl.Enum (start m s) None m.mods x t es

abbrev pub enum_type : ℕ → Marked → Grammar Token Decl
enum_type limit m = do
  s ← place kw_enum
  x ← any_name
  _ ← sign colon
  t ← ty limit
  _ ← sign brace
  es ← turns kind names (λ _. true) one_more_enumerator []
  _ ← sign unbrace
  gives (enum_of m s x t es)

-- "delegate" (ty | "void") name "(" params ")" ";" (20.2)
abbrev pub some_type : TypeForm → Option TypeForm
some_type t = Some t

abbrev pub no_type : Option TypeForm
no_type = None

abbrev pub void_result : Grammar Token (Option TypeForm)
void_result = do _ ← sign kw_void; gives no_type

abbrev pub typed_result : ℕ → Grammar Token (Option TypeForm)
typed_result limit = do t ← ty limit; gives (some_type t)

abbrev pub result : ℕ → Grammar Token (Option TypeForm)
result limit = either kind (kw_void ∷ []) void_result (typed_result limit)

abbrev pub delegate_of : Marked → Spot → Option TypeForm → Name → List Param → Decl
delegate_of m s t x ps = decl.Delegate (start m s) None m.mods t x ps

abbrev pub delegate_type : ℕ → Marked → Grammar Token Decl
delegate_type limit m = do
  s ← place kw_delegate
  t ← result limit
  x ← any_name
  ps ← params limit
  _ ← sign semicolon
  gives (delegate_of m s t x ps)

-- a type behind its modifiers, with these items in it
abbrev pub type_behind : Inner → Grammar Token Item → Marked → Grammar Token Decl
type_behind inner item m =
    either kind body_kinds (body_type inner item m) (either kind (kw_enum ∷ []) (enum_type inner.ranks m) (delegate_type inner.ranks m))

-- what stands in a type: a member, or, where there is room for one, a type
abbrev pub member_item : Inner → Marked → Grammar Token Item
member_item inner m = do x ← any_member inner m; gives (stands.Member x)

abbrev pub type_item : Inner → Grammar Token Item → Marked → Grammar Token Item
type_item inner item m = do d ← type_behind inner item m; gives (stands.Type d)

abbrev pub item_behind : Bool → Inner → Grammar Token Item → Marked → Grammar Token Item
item_behind room inner item m = guarded kind room type_words (type_item inner item m) (member_item inner m)

abbrev pub item_in : Bool → Inner → Grammar Token Item → Grammar Token Item
item_in room inner item = do m ← modifiers; item_behind room inner item m

-- Items in which at most so many types are open in one another. With none left, what begins a type is too deep, and nothing of it is
-- ever read.
abbrev pub lowest_item : Inner → Grammar Token Item
lowest_item inner = do m ← modifiers; member_item inner m

abbrev pub item_at : Inner → ℕ → Grammar Token Item
item_at inner zero = item_in false inner (lowest_item inner)
item_at inner (suc nesting) = item_in true inner (item_at inner nesting)

-- a type, in which at most so many are open in one another
abbrev pub type_at : Inner → ℕ → Grammar Token Decl
type_at inner nesting = do m ← modifiers; type_behind inner (item_at inner nesting) m

-- "namespace" path "{" { type } "}" (14.3)
abbrev pub path_first : Name → Path
path_first x = record { spot = x.spot; names = x.text ∷ [] }

abbrev pub path_more : Path → List ℕ → Path
path_more p n = record { spot = p.spot; names = p.names ++ n ∷ [] }

abbrev pub one_more_step : Path → Grammar Token Path
one_more_step p = do _ ← sign dot; n ← name_text; gives (path_more p n)

abbrev pub placed_path : Grammar Token Path
placed_path = do x ← any_name; turns kind (dot ∷ []) (λ _. true) one_more_step (path_first x)

abbrev pub one_more_type : Grammar Token Decl → List Decl → Grammar Token (List Decl)
one_more_type type ds = do d ← type; gives (ds ++ d ∷ [])

abbrev pub namespace_of : Spot → Path → List Decl → Space
namespace_of s p ds = space.Namespace s None p ds

abbrev pub of_namespace : Grammar Token Decl → Grammar Token Space
of_namespace type = do
  s ← place kw_namespace
  p ← placed_path
  _ ← sign brace
  ds ← turns kind decl_kinds (λ _. true) (one_more_type type) []
  _ ← sign unbrace
  gives (namespace_of s p ds)

abbrev pub of_type : Grammar Token Decl → Grammar Token Space
of_type type = do d ← type; gives (space.Type d)

-- unit = { "namespace" path "{" { type } "}" | type } (14.2)
abbrev pub one_space : Grammar Token Decl → Grammar Token Space
one_space type = either kind (kw_namespace ∷ []) (of_namespace type) (of_type type)

abbrev pub one_more_space : Grammar Token Decl → List Space → Grammar Token (List Space)
one_more_space type spaces = do c ← one_space type; gives (spaces ++ c ∷ [])

abbrev pub unit_of : List Space → WholeText
unit_of spaces = record { assembly = None; spaces = spaces }

abbrev pub unit_from : Grammar Token Decl → Grammar Token WholeText
unit_from type = do spaces ← turns kind (kw_namespace ∷ decl_kinds) (λ _. true) (one_more_space type) []; gives (unit_of spaces)

abbrev pub unit_at : Inner → ℕ → Grammar Token WholeText
unit_at inner nesting = unit_from (type_at inner nesting)

-- What stands in members: expressions of at most so many levels, types of at most so many pairs of brackets, and blocks of which at
-- most so many are open in one another.
abbrev pub inside : ℕ → ℕ → ℕ → Inner
inside levels ranks blocks = below (block_at levels ranks blocks) blocks ranks (levels + 1)
