-- The notes of members, types and whole texts: names in the assembly, which are printed in comments (ECMA-334, 6.3.3).
use Rattle.std.specs.Prelude.{ℕ, List, [], ◌∷◌, ◌++◌, IsUtf8, Option, Some, None}
use Rattle.std.specs.List.{flat_map}
use Rattle.cs_tree.specs.declared.members.Member.{Member}
use Rattle.cs_tree.specs.declared.members.Member.TheVariants as member
use Rattle.cs_tree.specs.declared.declarations.Decl.{Decl}
use Rattle.cs_tree.specs.declared.declarations.Item.{Item}
use Rattle.cs_tree.specs.declared.declarations.Decl.TheOpen.{Decl-F, Item-F}
use Rattle.cs_tree.specs.declared.declarations.Decl.TheFolds.{fold-Decl, fold-Item}
use Rattle.cs_tree.specs.declared.declarations.Space.{Space}
use Rattle.cs_tree.specs.declared.declarations.Space.TheVariants as space
use Rattle.cs_tree.specs.declared.declarations.Unit.{Unit as WholeText}

abbrev pub Notes : Type 0
Notes = List (List ℕ)

abbrev pub some_note : Option (List ℕ) → Notes
some_note None = []
some_note (Some text) = text ∷ []

abbrev pub member_notes : Member → Notes
member_notes (member.Field _ note _ _ _ _) = some_note note
member_notes (member.Constant _ note _ _ _ _) = some_note note
member_notes (member.Method _ note _ _ _ _ _ _) = some_note note
member_notes (member.Constructor _ note _ _ _ _ _) = some_note note
member_notes (member.Initializer _ note _ _) = some_note note
member_notes (member.Property _ note _ _ _ _ _) = some_note note
member_notes (member.Maker _ _ _ _) = []
member_notes (member.Indexer _ _ _ _ _ _ _ _) = []
member_notes (member.Operator _ _ _ _) = []

-- a type's own note, and those in it
abbrev pub decl_layer : Decl-F Notes Notes → Notes
decl_layer (Decl-F.Body _ note _ _ _ _ items) = some_note note ++ flat_map (λ (n : Notes). n) items
decl_layer (Decl-F.Enum _ note _ _ _ _) = some_note note
decl_layer (Decl-F.Delegate _ note _ _ _ _) = some_note note

abbrev pub item_layer : Item-F Notes Notes → Notes
item_layer (Item-F.Member m) = member_notes m
item_layer (Item-F.Type d) = d

abbrev pub decl_notes : Decl → Notes
decl_notes = fold-Decl Notes Notes decl_layer item_layer

abbrev pub item_notes : Item → Notes
item_notes = fold-Item Notes Notes decl_layer item_layer

abbrev pub space_notes : Space → Notes
space_notes (space.Namespace _ note _ types) = some_note note ++ flat_map decl_notes types
space_notes (space.Type d) = decl_notes d

-- the assembly's name, and the notes of all that stands in a text
abbrev pub unit_notes : WholeText → Notes
unit_notes u = some_note u.assembly ++ flat_map space_notes u.spaces

-- each of them is a text in UTF-8
abbrev pub AreTexts : Notes → Type 0
AreTexts [] = Unit {0}
AreTexts (text ∷ texts) = IsUtf8 text × AreTexts texts
