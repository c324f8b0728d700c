-- The tokens of what doesn't depend on a tree's parts, and those of names, types, literals and operators. Signs and keywords stand by
-- their number; what they are is written beside them.
use Rattle.std.specs.Prelude.{ℕ, zero, suc, Bool, true, false, List, [], ◌∷◌, ◌++◌, codes}
use Rattle.std.specs.List.{flat_map}
use Rattle.cs_token.specs.declared.lexeme.Suffix.{Suffix}
use Rattle.cs_token.specs.declared.lexeme.Lexeme.TheVariants as lexeme
use Rattle.cs_tree.specs.declared.types.KeywordType.{KeywordType}
use Rattle.cs_tree.specs.declared.types.KeywordType.TheVariants as kind
use Rattle.cs_tree.specs.declared.types.TypeName.{TypeName}
use Rattle.cs_tree.specs.declared.types.TypeName.TheVariants as type_name
use Rattle.cs_tree.specs.declared.types.TypeForm.{TypeForm}
use Rattle.cs_tree.specs.declared.types.Way.{Way}
use Rattle.cs_tree.specs.declared.types.Way.TheVariants as way
use Rattle.cs_tree.specs.declared.types.Param.{Param}
use Rattle.cs_tree.specs.declared.forms.Literal.{Literal}
use Rattle.cs_tree.specs.declared.forms.Literal.TheVariants as literal
use Rattle.cs_tree.specs.declared.forms.UnaryOp.{UnaryOp}
use Rattle.cs_tree.specs.declared.forms.UnaryOp.TheVariants as unary
use Rattle.cs_tree.specs.declared.forms.BinaryOp.{BinaryOp}
use Rattle.cs_tree.specs.declared.forms.BinaryOp.TheVariants as binary
use Rattle.cs_tree.specs.declared.forms.AssignOp.{AssignOp}
use Rattle.cs_tree.specs.declared.forms.AssignOp.TheVariants as assign
use Rattle.cs_layout.specs.declared.fixed.Fixed.{Fixed}
use Rattle.cs_layout.specs.declared.fixed.Fixed.TheVariants as part
use Rattle.cs_layout.specs.Pieces.{Piece, token, blank, newline, sign, keyword, word}

unfoldable pub fixed : Fixed → List Piece
fixed part.Open = sign 2 ∷ []  -- (
fixed part.Close = sign 3 ∷ []  -- )
fixed part.OpenIndex = sign 4 ∷ []  -- [
fixed part.CloseIndex = sign 5 ∷ []  -- ]
fixed part.Brackets = sign 4 ∷ sign 5 ∷ []  -- []
fixed part.OpenBrace = sign 0 ∷ []  -- {
fixed part.CloseBrace = sign 1 ∷ []  -- }
fixed part.Newline = newline ∷ []
fixed part.Blank = blank ∷ []
fixed part.Comma = sign 6 ∷ blank ∷ []  -- ,
fixed part.Dot = sign 9 ∷ []  -- .
fixed part.Semicolon = sign 7 ∷ []  -- ;
fixed part.Equals = blank ∷ sign 11 ∷ blank ∷ []  --  =
fixed part.Question = blank ∷ sign 10 ∷ blank ∷ []  --  ?
fixed part.Otherwise = blank ∷ sign 8 ∷ blank ∷ []  --  :
fixed part.Arrow = sign 3 ∷ blank ∷ sign 32 ∷ blank ∷ sign 0 ∷ newline ∷ []  -- ) => {\n
fixed part.Global = word (codes "global") ∷ sign 33 ∷ []  -- global::
fixed part.This = keyword 62 ∷ []  -- this
fixed part.Base = keyword 2 ∷ sign 9 ∷ []  -- base.
fixed part.New = keyword 40 ∷ blank ∷ []  -- new
fixed part.Checked = keyword 9 ∷ sign 2 ∷ []  -- checked(
fixed part.Unchecked = keyword 69 ∷ sign 2 ∷ []  -- unchecked(
fixed part.DefaultOf = keyword 14 ∷ sign 2 ∷ []  -- default(
fixed part.Ref = keyword 51 ∷ blank ∷ []  -- ref
fixed part.Out = keyword 44 ∷ blank ∷ []  -- out
fixed part.Is = blank ∷ keyword 36 ∷ blank ∷ []  --  is
fixed part.As = blank ∷ keyword 1 ∷ blank ∷ []  --  as
fixed part.True = keyword 64 ∷ []  -- true
fixed part.False = keyword 23 ∷ []  -- false
fixed part.Null = keyword 41 ∷ []  -- null
fixed part.LabelEnd = sign 8 ∷ blank ∷ sign 7 ∷ []  -- : ;
fixed part.Goto = keyword 29 ∷ blank ∷ []  -- goto
fixed part.Break = keyword 4 ∷ sign 7 ∷ []  -- break;
fixed part.Continue = keyword 12 ∷ sign 7 ∷ []  -- continue;
fixed part.ReturnNothing = keyword 52 ∷ sign 7 ∷ []  -- return;
fixed part.Return = keyword 52 ∷ blank ∷ []  -- return
fixed part.Rethrow = keyword 63 ∷ sign 7 ∷ []  -- throw;
fixed part.Throw = keyword 63 ∷ blank ∷ []  -- throw
fixed part.If = keyword 30 ∷ blank ∷ sign 2 ∷ []  -- if (
fixed part.Else = keyword 18 ∷ []  -- else
fixed part.While = keyword 76 ∷ blank ∷ sign 2 ∷ []  -- while (
fixed part.Do = keyword 16 ∷ []  -- do
fixed part.DoEnd = sign 3 ∷ sign 7 ∷ []  -- );
fixed part.For = keyword 27 ∷ blank ∷ sign 2 ∷ sign 7 ∷ blank ∷ []  -- for (;
fixed part.Then = sign 7 ∷ blank ∷ []  -- ;
fixed part.Foreach = keyword 28 ∷ blank ∷ sign 2 ∷ []  -- foreach (
fixed part.In = blank ∷ keyword 32 ∷ blank ∷ []  --  in
fixed part.Using = keyword 72 ∷ blank ∷ sign 2 ∷ []  -- using (
fixed part.Lock = keyword 37 ∷ blank ∷ sign 2 ∷ []  -- lock (
fixed part.Switch = keyword 61 ∷ blank ∷ sign 2 ∷ []  -- switch (
fixed part.Case = keyword 6 ∷ blank ∷ []  -- case
fixed part.Default = keyword 14 ∷ sign 8 ∷ []  -- default:
fixed part.CaseEnd = sign 8 ∷ []  -- :
fixed part.Try = keyword 65 ∷ []  -- try
fixed part.Catch = keyword 7 ∷ blank ∷ sign 2 ∷ []  -- catch (
fixed part.Finally = keyword 24 ∷ []  -- finally

-- operators (ECMA-334, 12.4.2)
abbrev pub unary_sign : UnaryOp → ℕ
unary_sign unary.Not = 22  -- !
unary_sign unary.Complement = 23  -- ~
unary_sign unary.Minus = 18  -- -

abbrev pub binary_sign : BinaryOp → ℕ
binary_sign binary.Or = 31  -- ||
binary_sign binary.And = 30  -- &&
binary_sign binary.BitOr = 15  -- |
binary_sign binary.BitXor = 16  -- ^
binary_sign binary.BitAnd = 14  -- &
binary_sign binary.Equal = 24  -- ==
binary_sign binary.Unequal = 25  -- !=
binary_sign binary.Less = 12  -- <
binary_sign binary.Greater = 13  -- >
binary_sign binary.AtMost = 26  -- <=
binary_sign binary.AtLeast = 27  -- >=
binary_sign binary.ShiftLeft = 28  -- <<
binary_sign binary.ShiftRight = 29  -- >>
binary_sign binary.Add = 17  -- +
binary_sign binary.Sub = 18  -- -
binary_sign binary.Mul = 19  -- *
binary_sign binary.Div = 20  -- /
binary_sign binary.Rem = 21  -- %

abbrev pub assign_sign : AssignOp → ℕ
assign_sign assign.Add = 34  -- +=
assign_sign assign.Sub = 35  -- -=
assign_sign assign.Mul = 36  -- *=
assign_sign assign.BitAnd = 37  -- &=
assign_sign assign.BitOr = 38  -- |=
assign_sign assign.BitXor = 39  -- ^=

unfoldable pub unary_pieces : UnaryOp → List Piece
unary_pieces op = sign (unary_sign op) ∷ []

unfoldable pub binary_pieces : BinaryOp → List Piece
binary_pieces op = blank ∷ sign (binary_sign op) ∷ blank ∷ []

unfoldable pub assign_pieces : AssignOp → List Piece
assign_pieces op = blank ∷ sign (assign_sign op) ∷ blank ∷ []

-- How tightly expressions bind (12.4.2): an expression stands in parentheses where one of a higher number is wanted. The new array
-- is apart, since its element is taken of it in parentheses alone (12.8.12).
abbrev pub conditional_level : ℕ
conditional_level = 0

abbrev pub binary_level : BinaryOp → ℕ
binary_level binary.Or = 1
binary_level binary.And = 2
binary_level binary.BitOr = 3
binary_level binary.BitXor = 4
binary_level binary.BitAnd = 5
binary_level binary.Equal = 6
binary_level binary.Unequal = 6
binary_level binary.Less = 7
binary_level binary.Greater = 7
binary_level binary.AtMost = 7
binary_level binary.AtLeast = 7
binary_level binary.ShiftLeft = 8
binary_level binary.ShiftRight = 8
binary_level binary.Add = 9
binary_level binary.Sub = 9
binary_level binary.Mul = 10
binary_level binary.Div = 10
binary_level binary.Rem = 10

abbrev pub relational_level : ℕ
relational_level = 7

abbrev pub unary_level : ℕ
unary_level = 11

abbrev pub cast_level : ℕ
cast_level = 12

abbrev pub new_array_level : ℕ
new_array_level = 13

abbrev pub primary_level : ℕ
primary_level = 14

-- names and paths (6.4.3, 7.8)
unfoldable pub name : List ℕ → List Piece
name text = word text ∷ []

abbrev pub dotted : List ℕ → List Piece
dotted text = fixed part.Dot ++ name text

abbrev pub more_names : List (List ℕ) → List Piece
more_names texts = flat_map dotted texts

abbrev pub path : List (List ℕ) → List Piece
path [] = []
path (text ∷ texts) = name text ++ more_names texts

-- types (8)
abbrev pub keyword_number : KeywordType → ℕ
keyword_number kind.Bool = 3
keyword_number kind.Char = 8
keyword_number kind.Sbyte = 53
keyword_number kind.Byte = 5
keyword_number kind.Short = 55
keyword_number kind.Ushort = 71
keyword_number kind.Int = 33
keyword_number kind.Uint = 67
keyword_number kind.Long = 38
keyword_number kind.Ulong = 68
keyword_number kind.Object = 42
keyword_number kind.String = 59

unfoldable pub keyword_type : KeywordType → List Piece
keyword_type k = keyword (keyword_number k) ∷ []

abbrev pub type_without_ranks : TypeName → List Piece
type_without_ranks (type_name.Keyword k) = keyword_type k
type_without_ranks (type_name.Global texts) = fixed part.Global ++ path texts

abbrev pub ranks : ℕ → List Piece
ranks zero = []
ranks (suc n) = fixed part.Brackets ++ ranks n

abbrev pub type_pieces : TypeForm → List Piece
type_pieces t = type_without_ranks t.name ++ ranks t.ranks

-- literals (6.4.5)
unfoldable pub number : ℕ → Suffix → List Piece
number n s = token (lexeme.Number n s) ∷ []

unfoldable pub character : ℕ → List Piece
character unit = token (lexeme.Char unit) ∷ []

unfoldable pub text : List ℕ → List Piece
text units = token (lexeme.Literal units) ∷ []

abbrev pub truth : Bool → List Piece
truth true = fixed part.True
truth false = fixed part.False

abbrev pub literal_pieces : Literal → List Piece
literal_pieces (literal.Number n s) = number n s
literal_pieces (literal.Char unit) = character unit
literal_pieces (literal.Text units) = text units
literal_pieces (literal.Bool b) = truth b
literal_pieces literal.Null = fixed part.Null

-- how an argument or a parameter is passed (15.6.2)
abbrev pub way_pieces : Way → List Piece
way_pieces way.Value = []
way_pieces way.Ref = fixed part.Ref
way_pieces way.Out = fixed part.Out

-- parts with commas between them
abbrev pub more_listed : List (List Piece) → List Piece
more_listed [] = []
more_listed (x ∷ xs) = fixed part.Comma ++ (x ++ more_listed xs)

-- what stands before a part behind so many others
abbrev pub comma : ℕ → List Piece
comma zero = []
comma (suc n) = fixed part.Comma

abbrev pub listed : List (List Piece) → List Piece
listed [] = []
listed (x ∷ xs) = x ++ more_listed xs

abbrev pub param_pieces : Param → List Piece
param_pieces p = way_pieces p.way ++ (type_pieces p.ty ++ (fixed part.Blank ++ name p.name.text))
