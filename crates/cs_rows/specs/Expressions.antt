-- Rows of expressions (ECMA-334, clause 12).
use Rattle.std.specs.Prelude.{◌≡◌, ℕ, ◌+◌, Bool, true, false, List, [], ◌∷◌}
use Rattle.cs_token.specs.Placed.{Placed as Token}
use Rattle.cs_tree.specs.declared.forms.Form.{Form}
use Rattle.cs_tree.specs.declared.forms.Form.TheVariants as form
use Rattle.cs_tree.specs.declared.forms.UnaryOp.TheVariants as unary
use Rattle.cs_tree.specs.declared.forms.BinaryOp.TheVariants as binary
use Rattle.cs_productions.specs.declared.values.Measured.{Measured}
use Rattle.cs_grammar.specs.Whole.{IsFault}
use Rattle.cs_productions.specs.Kinds.{paren, unparen, bracket, unbracket, colon, colons, dot, question, plus, minus, times, kw_int, kw_new}
use Rattle.cs_statements.specs.Laws.{expression_at}
use Rattle.cs_rows.specs.Samples.{here, word, sign, keyword, a, b, c, d, e, global_word, named, path_type, int_type}

-- within six levels, two pairs of brackets and one block: these tokens are this expression
abbrev pub Is : List Token → Form → Type 0
Is ts f = (m : Measured) × (m.form ≡ f) × (expression_at 6 2 1).derives ts m []

-- within so many levels and pairs of brackets the fault is at these tokens, and is one of depth or not
abbrev pub Fails : ℕ → ℕ → List Token → Bool → List Token → Type 0
Fails levels ranks ts deep left = IsFault (expression_at levels ranks 1) (expression_at (levels + 2) (ranks + 1) (1 + 1)) ts deep left

abbrev pub sub : Form → Form → Form
sub x y = form.Binary here binary.Sub x y

-- a - b - c
abbrev pub left : List Token
left = word a ∷ sign minus ∷ word b ∷ sign minus ∷ word c ∷ []

abbrev pub Left : Type 0
Left = Is left (sub (sub (named a) (named b)) (named c))

-- a + b * c
abbrev pub tighter : List Token
tighter = word a ∷ sign plus ∷ word b ∷ sign times ∷ word c ∷ []

abbrev pub Tighter : Type 0
Tighter = Is tighter (form.Binary here binary.Add (named a) (form.Binary here binary.Mul (named b) (named c)))

-- a ? b : c ? d : e
abbrev pub right : List Token
right = word a ∷ sign question ∷ word b ∷ sign colon ∷ word c ∷ sign question ∷ word d ∷ sign colon ∷ word e ∷ []

abbrev pub Right : Type 0
Right = Is right
    (form.Conditional here (named a) (named b) (form.Conditional here (named c) (named d) (named e)))

-- - - a
abbrev pub twice : List Token
twice = sign minus ∷ sign minus ∷ word a ∷ []

abbrev pub Twice : Type 0
Twice = Is twice (form.Unary here unary.Minus (form.Unary here unary.Minus (named a)))

abbrev pub Operators : Type 0
Operators = Left × Tighter × Right × Twice

-- (global::a)b is a cast
abbrev pub cast_of_name : List Token
cast_of_name = sign paren ∷ word global_word ∷ sign colons ∷ word a ∷ sign unparen ∷ word b ∷ []

abbrev pub CastOfName : Type 0
CastOfName = Is cast_of_name (form.Cast here (path_type (a ∷ [])) (named b))

-- (global::a)-b is a difference
abbrev pub difference : List Token
difference = sign paren ∷ word global_word ∷ sign colons ∷ word a ∷ sign unparen ∷ sign minus ∷ word b ∷ []

abbrev pub Difference : Type 0
Difference = Is difference (sub (form.Global here (a ∷ [])) (named b))

-- (int)-b is nothing, from the minus on
abbrev pub no_cast : List Token
no_cast = sign paren ∷ keyword kw_int ∷ sign unparen ∷ sign minus ∷ word b ∷ []

abbrev pub NoCast : Type 0
NoCast = Fails 6 2 no_cast false (sign minus ∷ word b ∷ [])

-- global::a.b is one path of two names
abbrev pub whole_path : List Token
whole_path = word global_word ∷ sign colons ∷ word a ∷ sign dot ∷ word b ∷ []

abbrev pub WholePath : Type 0
WholePath = Is whole_path (form.Global here (a ∷ b ∷ []))

-- new int[a][] has elements of type int[]
abbrev pub new_array : List Token
new_array = keyword kw_new ∷ keyword kw_int ∷ sign bracket ∷ word a ∷ sign unbracket ∷ sign bracket ∷ sign unbracket ∷ []

abbrev pub NewArray : Type 0
NewArray = Is new_array (form.NewArray here (int_type 1) (named a))

abbrev pub Casts : Type 0
Casts = CastOfName × Difference × NoCast × WholePath × NewArray

-- with one level, a - b - c is too deep at the second minus
abbrev pub level_too_many : List Token
level_too_many = word a ∷ sign minus ∷ word b ∷ sign minus ∷ word c ∷ []

abbrev pub LevelTooMany : Type 0
LevelTooMany = Fails 1 2 level_too_many true (sign minus ∷ word c ∷ [])

-- with one pair of brackets, (int[][])a is too deep at the second
abbrev pub bracket_too_many : List Token
bracket_too_many = sign paren ∷ keyword kw_int ∷ sign bracket ∷ sign unbracket ∷ sign bracket ∷ sign unbracket ∷ sign unparen ∷ word a ∷ []

abbrev pub BracketTooMany : Type 0
BracketTooMany = Fails 6 1 bracket_too_many true
    (sign bracket ∷ sign unbracket ∷ sign unparen ∷ word a ∷ [])

abbrev pub Depths : Type 0
Depths = LevelTooMany × BracketTooMany
