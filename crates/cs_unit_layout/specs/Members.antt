-- The layout of members (ECMA-334, clause 15): each on lines of its own behind its margin, a block from brace to brace.
use Rattle.std.specs.Prelude.{ℕ, List, [], ◌++◌, map, Option, Some, None}
use Rattle.cs_tree.specs.declared.types.Name.{Name}
use Rattle.cs_tree.specs.declared.types.Param.{Param}
use Rattle.cs_tree.specs.declared.types.TypeForm.{TypeForm}
use Rattle.cs_tree.specs.declared.forms.Form.{Form}
use Rattle.cs_tree.specs.declared.forms.Block.{Block}
use Rattle.cs_tree.specs.declared.members.Mods.{Mods}
use Rattle.cs_tree.specs.declared.members.Initial.{Initial}
use Rattle.cs_tree.specs.declared.members.Initial.TheVariants as initial
use Rattle.cs_tree.specs.declared.members.Explicit.{Explicit}
use Rattle.cs_tree.specs.declared.members.Accessor.{Accessor}
use Rattle.cs_tree.specs.declared.members.Member.{Member}
use Rattle.cs_tree.specs.declared.members.Member.TheVariants as member
use Rattle.cs_layout.specs.declared.fixed.Fixed.TheVariants as part
use Rattle.cs_layout.specs.Pieces.{Piece}
use Rattle.cs_layout.specs.Words.{fixed, name}
use Rattle.cs_layout.specs.Layout.{indent, line, deeper, typed, arguments, braced, form_shown, arg_laid, block_laid}
use Rattle.cs_unit_layout.specs.declared.headwords.Headword.{Headword}
use Rattle.cs_unit_layout.specs.declared.headwords.Headword.TheVariants as begin
use Rattle.cs_unit_layout.specs.Heads.{headword, mods_pieces, result_pieces, explicit_pieces, params_pieces, note_pieces}

-- what stands behind a head: a block on lines of its own, or `;`
abbrev pub block_behind : Block → List ℕ → List Piece
block_behind block margin = fixed part.Newline ++ braced (block_laid block) margin

abbrev pub body_behind : Option Block → List ℕ → List Piece
body_behind None margin = fixed part.Semicolon ++ fixed part.Newline
body_behind (Some block) margin = block_behind block margin

abbrev pub bodied : List Piece → Option Block → List ℕ → List Piece
bodied ps block margin = indent margin ++ (ps ++ body_behind block margin)

-- [ "=" expr ] (15.5)
abbrev pub initial_value : Option Form → List ℕ → List Piece
initial_value None margin = []
initial_value (Some value) margin = fixed part.Equals ++ (form_shown value).pieces margin

-- mods ty [ "global" "::" path "." ] name "(" params ")" (15.6)
abbrev pub method_head : Mods → Option TypeForm → Option Explicit → Name → List Param → List Piece
method_head mods result explicit n params =
    mods_pieces mods ++ (result_pieces result ++ (explicit_pieces explicit ++ (name n.text ++ params_pieces params)))

-- mods name "(" params ")" (15.11)
abbrev pub maker_head : Mods → Name → List Param → List Piece
maker_head mods n params = mods_pieces mods ++ (name n.text ++ params_pieces params)

-- ":" ("base" | "this") "(" args ")" (15.11.2)
abbrev pub initial_pieces : Initial → List ℕ → List Piece
initial_pieces (initial.Base args) margin = fixed part.Otherwise ++ (headword begin.ByBase ++ arguments (map arg_laid args) margin)
initial_pieces (initial.This args) margin = fixed part.Otherwise ++ (headword begin.ByThis ++ arguments (map arg_laid args) margin)

-- "static" name "(" ")" (15.12)
abbrev pub initializer_head : Name → List Piece
initializer_head n = headword begin.Static ++ (name n.text ++ (fixed part.Open ++ fixed part.Close))

-- accessors (15.7.3), the getter first, between braces on lines of their own
abbrev pub accessor_laid : Headword → Option Accessor → List ℕ → List Piece
accessor_laid h None margin = []
accessor_laid h (Some a) margin = bodied (mods_pieces a.mods ++ headword h) a.block margin

abbrev pub accessors_laid : Option Accessor → Option Accessor → List ℕ → List Piece
accessors_laid getter setter margin =
    line margin (fixed part.OpenBrace)
    ++ (accessor_laid begin.Get getter (deeper margin)
    ++ (accessor_laid begin.Set setter (deeper margin) ++ line margin (fixed part.CloseBrace)))

-- mods ty name (15.7), mods "indexer" ty name "[" ty name "]" (15.9), "operator" ty name "(" params ")" (15.10)
abbrev pub property_head : Mods → TypeForm → Name → List Piece
property_head mods ty n = mods_pieces mods ++ typed ty n

abbrev pub indexer_head : Mods → TypeForm → Name → TypeForm → Name → List Piece
indexer_head mods ty n index_ty index =
    mods_pieces mods ++ (headword begin.Indexer ++ (typed ty n ++ (fixed part.OpenIndex ++ (typed index_ty index ++ fixed part.CloseIndex))))

abbrev pub operator_head : TypeForm → Name → List Param → List Piece
operator_head ty n params = headword begin.Operator ++ (typed ty n ++ params_pieces params)

-- a member behind its margin
abbrev pub field_laid : Mods → TypeForm → Name → Option Form → List ℕ → List Piece
field_laid mods ty n value margin = line margin (mods_pieces mods ++ (typed ty n ++ (initial_value value margin ++ fixed part.Semicolon)))

abbrev pub constant_laid : Mods → TypeForm → Name → Form → List ℕ → List Piece
constant_laid mods ty n value margin =
    line margin
    (mods_pieces mods ++ (headword begin.Const ++ (typed ty n ++ (fixed part.Equals ++ ((form_shown value).pieces margin ++ fixed part.Semicolon)))))

abbrev pub constructor_laid : Mods → Name → List Param → Initial → Block → List ℕ → List Piece
constructor_laid mods n params first block margin =
    indent margin ++ (maker_head mods n params ++ (initial_pieces first margin ++ block_behind block margin))

abbrev pub initializer_laid : Name → Block → List ℕ → List Piece
initializer_laid n block margin = indent margin ++ (initializer_head n ++ block_behind block margin)

abbrev pub property_laid : Mods → TypeForm → Name → Option Accessor → Option Accessor → List ℕ → List Piece
property_laid mods ty n getter setter margin = line margin (property_head mods ty n) ++ accessors_laid getter setter margin

abbrev pub member_laid : Member → List ℕ → List Piece
member_laid (member.Field _ note mods ty n value) margin = note_pieces note margin ++ field_laid mods ty n value margin
member_laid (member.Constant _ note mods ty n value) margin = note_pieces note margin ++ constant_laid mods ty n value margin
member_laid (member.Method _ note mods result explicit n params block) margin =
    note_pieces note margin ++ bodied (method_head mods result explicit n params) block margin
member_laid (member.Constructor _ note mods n params first block) margin = note_pieces note margin ++ constructor_laid mods n params first block margin
member_laid (member.Initializer _ note n block) margin = note_pieces note margin ++ initializer_laid n block margin
member_laid (member.Property _ note mods ty n getter setter) margin =
    note_pieces note margin ++ property_laid mods ty n getter setter margin
member_laid (member.Maker _ mods n params) margin = line margin (maker_head mods n params ++ fixed part.Semicolon)
member_laid (member.Indexer _ mods ty n index_ty index getter setter) margin =
    line margin (indexer_head mods ty n index_ty index) ++ accessors_laid getter setter margin
member_laid (member.Operator _ ty n params) margin = line margin (operator_head ty n params ++ fixed part.Semicolon)
