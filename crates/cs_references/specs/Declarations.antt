-- Types and whole reference texts (ECMA-334, 14.2, 15.2, 16, 18, 19 and 20).
use Rattle.std.specs.Prelude.{ℕ, zero, suc, Bool, true, false, [], ◌∷◌}
use Rattle.cs_token.specs.Placed.{Placed as Token}
use Rattle.cs_tree.specs.declared.declarations.Item.{Item}
use Rattle.cs_tree.specs.declared.declarations.Item.TheVariants as stands
use Rattle.cs_tree.specs.declared.declarations.Decl.{Decl}
use Rattle.cs_tree.specs.declared.declarations.Unit.{Unit as WholeText}
use Rattle.cs_units.specs.declared.values.Marked.{Marked}
use Rattle.cs_grammar.specs.Grammar.{Grammar, gives, one, ◌>>=◌, either, guarded, turns}
use Rattle.cs_productions.specs.Kinds.{brace, unbrace, kw_enum}
use Rattle.cs_productions.specs.Tokens.{kind, sign, any_name}
use Rattle.cs_units.specs.Kinds.{body_kinds, type_words, item_kinds}
use Rattle.cs_units.specs.Modifiers.{modifiers}
use Rattle.cs_units.specs.Declarations.{bases, one_more_item, body_of, enum_type, delegate_type, unit_from}
use Rattle.cs_references.specs.Members.{any_member}

-- ("class" | "interface" | "struct") name [":" ty {"," ty}] "{" { item } "}" (15.2, 16.2, 18.2)
abbrev pub body_type : ℕ → Grammar Token Item → Marked → Grammar Token Decl
body_type limit item m = do
  t ← one kind body_kinds (λ t. t)
  x ← any_name
  ts ← bases limit
  _ ← sign brace
  items ← turns kind item_kinds (λ _. true) (one_more_item item) []
  _ ← sign unbrace
  gives (body_of m t x ts items)

-- a type behind its modifiers, with these items in it
abbrev pub type_behind : ℕ → Grammar Token Item → Marked → Grammar Token Decl
type_behind limit item m =
    either kind body_kinds (body_type limit item m) (either kind (kw_enum ∷ []) (enum_type limit m) (delegate_type limit m))

-- what stands in a type: a member, or, where there is room for one, a type
abbrev pub member_item : ℕ → Marked → Grammar Token Item
member_item limit m = do x ← any_member limit m; gives (stands.Member x)

abbrev pub type_item : ℕ → Grammar Token Item → Marked → Grammar Token Item
type_item limit item m = do d ← type_behind limit item m; gives (stands.Type d)

abbrev pub item_behind : Bool → ℕ → Grammar Token Item → Marked → Grammar Token Item
item_behind room limit item m = guarded kind room type_words (type_item limit item m) (member_item limit m)

abbrev pub item_in : Bool → ℕ → Grammar Token Item → Grammar Token Item
item_in room limit item = do m ← modifiers; item_behind room limit item m

-- Items in which at most so many types are open in one another. With none left, what begins a type is too deep, and nothing of it is
-- ever read.
abbrev pub lowest_item : ℕ → Grammar Token Item
lowest_item limit = do m ← modifiers; member_item limit m

abbrev pub item_at : ℕ → ℕ → Grammar Token Item
item_at limit zero = item_in false limit (lowest_item limit)
item_at limit (suc nesting) = item_in true limit (item_at limit nesting)

-- a type, in which at most so many are open in one another
abbrev pub type_at : ℕ → ℕ → Grammar Token Decl
type_at limit nesting = do m ← modifiers; type_behind limit (item_at limit nesting) m

-- A whole reference text: types have at most so many pairs of brackets, and at most so many are open in one another.
abbrev pub text_at : ℕ → ℕ → Grammar Token WholeText
text_at limit nesting = unit_from (type_at limit nesting)
