-- The layout of types and whole texts (ECMA-334, clauses 14 to 20): one member or brace a line, no line empty.
use Rattle.std.specs.Prelude.{ℕ, zero, suc, List, [], ◌++◌, map, Option}
use Rattle.std.specs.List.{flat_map}
use Rattle.cs_token.specs.declared.lexeme.Suffix.TheVariants.{Plain}
use Rattle.cs_tree.specs.declared.types.Name.{Name}
use Rattle.cs_tree.specs.declared.types.Param.{Param}
use Rattle.cs_tree.specs.declared.types.Path.{Path}
use Rattle.cs_tree.specs.declared.types.TypeForm.{TypeForm}
use Rattle.cs_tree.specs.declared.members.Mods.{Mods}
use Rattle.cs_tree.specs.declared.declarations.Kind.{Kind}
use Rattle.cs_tree.specs.declared.declarations.Enumerator.{Enumerator}
use Rattle.cs_tree.specs.declared.declarations.Item.{Item}
use Rattle.cs_tree.specs.declared.declarations.Decl.{Decl}
use Rattle.cs_tree.specs.declared.declarations.Decl.TheOpen.{Decl-F, Item-F}
use Rattle.cs_tree.specs.declared.declarations.Decl.TheFolds.{fold-Decl, fold-Item}
use Rattle.cs_tree.specs.declared.declarations.Space.{Space}
use Rattle.cs_tree.specs.declared.declarations.Space.TheVariants as space
use Rattle.cs_tree.specs.declared.declarations.Unit.{Unit as WholeText}
use Rattle.cs_layout.specs.declared.fixed.Fixed.TheVariants as part
use Rattle.cs_layout.specs.Pieces.{Piece}
use Rattle.cs_layout.specs.Words.{fixed, number, name, path, type_pieces}
use Rattle.cs_layout.specs.Layout.{Laid, line, deeper}
use Rattle.cs_unit_layout.specs.declared.headwords.Headword.TheVariants as begin
use Rattle.cs_unit_layout.specs.Heads.{headword, flag_pieces, mods_pieces, result_pieces, params_pieces, kind_pieces, bases_pieces, note_pieces, assembly_pieces}
use Rattle.cs_unit_layout.specs.Members.{member_laid}

-- parts between braces on lines of their own, one level deeper
abbrev pub between : Laid → Laid
between parts margin = line margin (fixed part.OpenBrace) ++ (parts (deeper margin) ++ line margin (fixed part.CloseBrace))

abbrev pub each : List Laid → Laid
each parts margin = flat_map (λ p. p margin) parts

-- name "=" ["-"] number "," (19.4)
abbrev pub enumerator_laid : Enumerator → Laid
enumerator_laid e margin =
    line margin (name e.name.text ++ (fixed part.Equals ++ (flag_pieces e.negative begin.Minus ++ (number e.value Plain ++ headword begin.ItemEnd))))

-- mods ("class" | "interface" | "struct") name [":" ty {"," ty}] (15.2, 16.2, 18.2)
abbrev pub body_head : Mods → Kind → Name → List TypeForm → List Piece
body_head mods kind n bases = mods_pieces mods ++ (kind_pieces kind ++ (name n.text ++ bases_pieces bases))

-- mods "enum" name ":" ty (19.2)
abbrev pub enum_head : Mods → Name → TypeForm → List Piece
enum_head mods n ty = mods_pieces mods ++ (headword begin.Enum ++ (name n.text ++ (fixed part.Otherwise ++ type_pieces ty)))

-- mods "delegate" ty name "(" params ")" ";" (20.2)
abbrev pub delegate_head : Mods → Option TypeForm → Name → List Param → List Piece
delegate_head mods result n params =
    mods_pieces mods ++ (headword begin.Delegate ++ (result_pieces result ++ (name n.text ++ (params_pieces params ++ fixed part.Semicolon))))

-- a type behind its margin, and what stands in one
abbrev pub decl_layer : Decl-F Laid Laid → Laid
decl_layer (Decl-F.Body _ note mods kind n bases items) margin =
    note_pieces note margin ++ (line margin (body_head mods kind n bases) ++ between (each items) margin)
decl_layer (Decl-F.Enum _ note mods n ty enumerators) margin =
    note_pieces note margin ++ (line margin (enum_head mods n ty) ++ between (each (map enumerator_laid enumerators)) margin)
decl_layer (Decl-F.Delegate _ note mods result n params) margin =
    note_pieces note margin ++ line margin (delegate_head mods result n params)

abbrev pub item_layer : Item-F Laid Laid → Laid
item_layer (Item-F.Member m) margin = member_laid m margin
item_layer (Item-F.Type d) margin = d margin

abbrev pub decl_laid : Decl → Laid
decl_laid = fold-Decl Laid Laid decl_layer item_layer

abbrev pub item_laid : Item → Laid
item_laid = fold-Item Laid Laid decl_layer item_layer

-- "namespace" path "{" { type } "}" (14.3), or a type
abbrev pub namespace_laid : Option (List ℕ) → Path → List Decl → Laid
namespace_laid note p types margin =
    note_pieces note margin ++ (line margin (headword begin.Namespace ++ path p.names) ++ between (each (map decl_laid types)) margin)

abbrev pub space_laid : Space → Laid
space_laid (space.Namespace _ note p types) margin = namespace_laid note p types margin
space_laid (space.Type d) margin = decl_laid d margin

-- the margin of so many levels
abbrev pub margin_of : ℕ → List ℕ
margin_of zero = []
margin_of (suc n) = deeper (margin_of n)

-- a whole text (14.2)
abbrev pub unit_laid : WholeText → List Piece
unit_laid u = assembly_pieces u.assembly ++ each (map space_laid u.spaces) []
