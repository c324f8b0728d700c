-- The words that declarations begin with, modifiers, and the lines of notes. Signs and keywords stand by their number; what they are is
-- written beside them.
use Rattle.std.specs.Prelude.{ℕ, Bool, true, false, cond, ◌&&◌, nat_le, List, [], ◌∷◌, ◌++◌, map, Option, Some, None, codes}
use Rattle.std.specs.List.{flat_map}
use Rattle.std.specs.Str.{chars}
use Rattle.std.specs.Char.Escape.{encode_utf16}
use Rattle.cs_tree.specs.declared.types.Param.{Param}
use Rattle.cs_tree.specs.declared.types.TypeForm.{TypeForm}
use Rattle.cs_tree.specs.declared.members.Access.{Access}
use Rattle.cs_tree.specs.declared.members.Access.TheVariants as access
use Rattle.cs_tree.specs.declared.members.Mods.{Mods}
use Rattle.cs_tree.specs.declared.members.Explicit.{Explicit}
use Rattle.cs_tree.specs.declared.declarations.Kind.{Kind}
use Rattle.cs_tree.specs.declared.declarations.Kind.TheVariants as kind
use Rattle.cs_written.specs.Spelled.{hex_spelled}
use Rattle.cs_layout.specs.declared.fixed.Fixed.TheVariants as part
use Rattle.cs_layout.specs.Pieces.{Piece, gap, blank, sign, keyword, word}
use Rattle.cs_layout.specs.Words.{fixed, path, type_pieces, listed, param_pieces}
use Rattle.cs_layout.specs.Layout.{line}
use Rattle.cs_unit_layout.specs.declared.headwords.Headword.{Headword}
use Rattle.cs_unit_layout.specs.declared.headwords.Headword.TheVariants as begin

unfoldable pub headword : Headword → List Piece
headword begin.Public = keyword 49 ∷ blank ∷ []  -- public
headword begin.Private = keyword 47 ∷ blank ∷ []  -- private
headword begin.Protected = keyword 48 ∷ blank ∷ []  -- protected
headword begin.Internal = keyword 35 ∷ blank ∷ []  -- internal
headword begin.ProtectedOrInternal = keyword 48 ∷ blank ∷ keyword 35 ∷ blank ∷ []  -- protected internal
headword begin.ProtectedAndInternal = keyword 47 ∷ blank ∷ keyword 48 ∷ blank ∷ []  -- private protected
headword begin.Static = keyword 58 ∷ blank ∷ []  -- static
headword begin.Abstract = keyword 0 ∷ blank ∷ []  -- abstract
headword begin.Sealed = keyword 54 ∷ blank ∷ []  -- sealed
headword begin.Virtual = keyword 73 ∷ blank ∷ []  -- virtual
headword begin.Override = keyword 45 ∷ blank ∷ []  -- override
headword begin.Readonly = keyword 50 ∷ blank ∷ []  -- readonly
headword begin.Extern = keyword 22 ∷ blank ∷ []  -- extern
headword begin.Const = keyword 11 ∷ blank ∷ []  -- const
headword begin.Void = keyword 74 ∷ blank ∷ []  -- void
headword begin.Class = keyword 10 ∷ blank ∷ []  -- class
headword begin.Interface = keyword 34 ∷ blank ∷ []  -- interface
headword begin.Struct = keyword 60 ∷ blank ∷ []  -- struct
headword begin.Enum = keyword 19 ∷ blank ∷ []  -- enum
headword begin.Delegate = keyword 15 ∷ blank ∷ []  -- delegate
headword begin.Namespace = keyword 39 ∷ blank ∷ []  -- namespace
headword begin.Operator = keyword 43 ∷ blank ∷ []  -- operator
headword begin.Indexer = word (codes "indexer") ∷ blank ∷ []  -- indexer
headword begin.Get = word (codes "get") ∷ []  -- get
headword begin.Set = word (codes "set") ∷ []  -- set
headword begin.ByBase = keyword 2 ∷ []  -- base
headword begin.ByThis = keyword 62 ∷ []  -- this
headword begin.Minus = sign 18 ∷ []  -- -
headword begin.ItemEnd = sign 6 ∷ []  -- ,

-- modifiers (ECMA-334, 15.3.5 and 15.3.6): one access at most, then the others, in one order
abbrev pub access_pieces : Option Access → List Piece
access_pieces None = []
access_pieces (Some access.Public) = headword begin.Public
access_pieces (Some access.Private) = headword begin.Private
access_pieces (Some access.Protected) = headword begin.Protected
access_pieces (Some access.Internal) = headword begin.Internal
access_pieces (Some access.ProtectedOrInternal) = headword begin.ProtectedOrInternal
access_pieces (Some access.ProtectedAndInternal) = headword begin.ProtectedAndInternal

abbrev pub flag_pieces : Bool → Headword → List Piece
flag_pieces true h = headword h
flag_pieces false h = []

abbrev pub mods_pieces : Mods → List Piece
mods_pieces m =
    access_pieces m.access
    ++ (flag_pieces m.is_static begin.Static
    ++ (flag_pieces m.is_abstract begin.Abstract
    ++ (flag_pieces m.is_sealed begin.Sealed
    ++ (flag_pieces m.is_virtual begin.Virtual
    ++ (flag_pieces m.is_override begin.Override ++ (flag_pieces m.is_readonly begin.Readonly ++ flag_pieces m.is_extern begin.Extern))))))

-- a type, or `void`, and a blank (15.6.1)
abbrev pub result_pieces : Option TypeForm → List Piece
result_pieces None = headword begin.Void
result_pieces (Some t) = type_pieces t ++ fixed part.Blank

-- the interface whose method is implemented by name (18.6.2)
abbrev pub explicit_pieces : Option Explicit → List Piece
explicit_pieces None = []
explicit_pieces (Some e) = fixed part.Global ++ (path e.path ++ fixed part.Dot)

-- "(" params ")"
abbrev pub params_pieces : List Param → List Piece
params_pieces ps = fixed part.Open ++ (listed (map param_pieces ps) ++ fixed part.Close)

-- what a type with a body of members is (15.2, 16.2, 18.2), and the types behind its name
abbrev pub kind_pieces : Kind → List Piece
kind_pieces kind.Class = headword begin.Class
kind_pieces kind.Interface = headword begin.Interface
kind_pieces kind.Struct = headword begin.Struct

abbrev pub bases_pieces : List TypeForm → List Piece
bases_pieces [] = []
bases_pieces (t ∷ ts) = fixed part.Otherwise ++ listed (map type_pieces (t ∷ ts))

-- A name in a comment, so that the comment stays on its line: the characters from space to `~` as they are, each UTF-16 unit of each
-- other one by its number.
abbrev pub unit_noted : ℕ → List ℕ
unit_noted unit = 92 ∷ 117 ∷ hex_spelled unit

abbrev pub char_noted : ℕ → List ℕ
char_noted c = cond (nat_le 32 c && nat_le c 126) (c ∷ []) (flat_map unit_noted (encode_utf16 c))

unfoldable pub noted : List ℕ → List Piece
noted text = gap (flat_map char_noted (chars text)) ∷ []

-- `// name: ` and a name in the assembly, on a line before what has another name in the text
unfoldable pub name_note : List Piece
name_note = gap (codes "// name: ") ∷ []

abbrev pub note_pieces : Option (List ℕ) → List ℕ → List Piece
note_pieces None margin = []
note_pieces (Some text) margin = line margin (name_note ++ noted text)

-- `// assembly ` and the assembly's name, on the first line
unfoldable pub assembly_note : List Piece
assembly_note = gap (codes "// assembly ") ∷ []

abbrev pub assembly_pieces : Option (List ℕ) → List Piece
assembly_pieces None = []
assembly_pieces (Some text) = assembly_note ++ (noted text ++ fixed part.Newline)
