-- Single tokens, and what they leave in a tree.
use Rattle.std.specs.Prelude.{ℕ, false, cond, ◌==◌, List, [], ◌∷◌}
use Rattle.cs_token.specs.Placed.{Placed as Token}
use Rattle.cs_token.specs.Tokens.{kind_of}
use Rattle.cs_token.specs.declared.lexeme.Lexeme.{Lexeme}
use Rattle.cs_token.specs.declared.lexeme.Lexeme.TheVariants as lexeme
use Rattle.cs_tree.specs.declared.types.Spot.{Spot}
use Rattle.cs_tree.specs.declared.types.Name.{Name}
use Rattle.cs_tree.specs.declared.types.KeywordType.{KeywordType}
use Rattle.cs_tree.specs.declared.types.KeywordType.TheVariants as keyword_type
use Rattle.cs_tree.specs.declared.types.Way.{Way}
use Rattle.cs_tree.specs.declared.types.Way.TheVariants as way
use Rattle.cs_tree.specs.declared.forms.Literal.{Literal}
use Rattle.cs_tree.specs.declared.forms.Literal.TheVariants as literal
use Rattle.cs_tree.specs.declared.forms.Form.{Form}
use Rattle.cs_tree.specs.declared.forms.Form.TheVariants as form
use Rattle.cs_tree.specs.declared.forms.UnaryOp.{UnaryOp}
use Rattle.cs_tree.specs.declared.forms.UnaryOp.TheVariants as unary
use Rattle.cs_tree.specs.declared.forms.BinaryOp.{BinaryOp}
use Rattle.cs_tree.specs.declared.forms.BinaryOp.TheVariants as binary
use Rattle.cs_productions.specs.declared.values.Measured.{Measured}
use Rattle.cs_grammar.specs.Grammar.{Grammar, one}
use Rattle.cs_productions.specs.Kinds.{names, simple_kinds, kw_bool, kw_char, kw_sbyte, kw_byte, kw_short, kw_ushort, kw_int, kw_uint, kw_long, kw_ulong, kw_object, kw_ref, kw_true, kw_this, kw_null, bang, tilde, times, slash, percent, plus, minus, shift_left, shift_right, less, greater, at_most, at_least, equal, unequal, amp, caret, bar, both}

-- the kind of a token
abbrev pub kind : Token → ℕ
kind t = kind_of t.lexeme

-- where a token stands
abbrev pub spot_of : Token → Spot
spot_of t = record { line = t.line; column = t.column }

-- a token of this kind, which leaves nothing
abbrev pub sign : ℕ → Grammar Token (Unit {0})
sign k = one kind (k ∷ []) (λ _. tt)

-- a token of this kind, which leaves its place
abbrev pub place : ℕ → Grammar Token Spot
place k = one kind (k ∷ []) spot_of

-- a name (6.4.3): its text, or its text and place
abbrev pub text_of_lexeme : Lexeme → List ℕ
text_of_lexeme (lexeme.Name t) = t
text_of_lexeme _ = []

abbrev pub text_of : Token → List ℕ
text_of t = text_of_lexeme t.lexeme

abbrev pub name_of : Token → Name
name_of t = record { spot = spot_of t; text = text_of t }

abbrev pub name_text : Grammar Token (List ℕ)
name_text = one kind names text_of

abbrev pub any_name : Grammar Token Name
any_name = one kind names name_of

-- the type that a keyword names
abbrev pub keyword_type_of : ℕ → KeywordType
keyword_type_of k =
    cond (k == kw_bool) keyword_type.Bool
    (cond (k == kw_char) keyword_type.Char
    (cond (k == kw_sbyte) keyword_type.Sbyte
    (cond (k == kw_byte) keyword_type.Byte
    (cond (k == kw_short) keyword_type.Short
    (cond (k == kw_ushort) keyword_type.Ushort
    (cond (k == kw_int) keyword_type.Int
    (cond (k == kw_uint) keyword_type.Uint
    (cond (k == kw_long) keyword_type.Long
    (cond (k == kw_ulong) keyword_type.Ulong (cond (k == kw_object) keyword_type.Object keyword_type.String))))))))))

-- how an argument or a parameter is passed: `ref`, `out`
abbrev pub way_of : ℕ → Way
way_of k = cond (k == kw_ref) way.Ref way.Out

-- a literal (6.4.5)
abbrev pub word_literal : ℕ → Literal
word_literal k = cond (k == kw_null) literal.Null (literal.Bool (k == kw_true))

abbrev pub literal_of : Lexeme → Literal
literal_of (lexeme.Number n s) = literal.Number n s
literal_of (lexeme.Char unit) = literal.Char unit
literal_of (lexeme.Literal units) = literal.Text units
literal_of t = word_literal (kind_of t)

-- a name, a literal or `this` as an expression (12.8.2, 12.8.4, 12.8.14)
abbrev pub word_form : ℕ → Spot → Form
word_form k s = cond (k == kw_this) (form.This s) (form.Literal s (word_literal k))

abbrev pub simple_form : Lexeme → Spot → Form
simple_form (lexeme.Name t) s = form.Name s t
simple_form (lexeme.Number n x) s = form.Literal s (literal.Number n x)
simple_form (lexeme.Char unit) s = form.Literal s (literal.Char unit)
simple_form (lexeme.Literal units) s = form.Literal s (literal.Text units)
simple_form t s = word_form (kind_of t) s

-- an expression without operators
abbrev pub leaf : Form → Spot → Measured
leaf f s = record { form = f; height = 0; spot = s; is_call = false }

abbrev pub simple_of : Token → Measured
simple_of t = leaf (simple_form t.lexeme (spot_of t)) (spot_of t)

abbrev pub simple : Grammar Token Measured
simple = one kind simple_kinds simple_of

-- operators
abbrev pub unary_of : ℕ → UnaryOp
unary_of k = cond (k == bang) unary.Not (cond (k == tilde) unary.Complement unary.Minus)

abbrev pub binary_of : ℕ → BinaryOp
binary_of k =
    cond (k == times) binary.Mul
    (cond (k == slash) binary.Div
    (cond (k == percent) binary.Rem
    (cond (k == plus) binary.Add
    (cond (k == minus) binary.Sub
    (cond (k == shift_left) binary.ShiftLeft
    (cond (k == shift_right) binary.ShiftRight
    (cond (k == less) binary.Less
    (cond (k == greater) binary.Greater
    (cond (k == at_most) binary.AtMost
    (cond (k == at_least) binary.AtLeast
    (cond (k == equal) binary.Equal
    (cond (k == unequal) binary.Unequal
    (cond (k == amp) binary.BitAnd
    (cond (k == caret) binary.BitXor (cond (k == bar) binary.BitOr (cond (k == both) binary.And binary.Or))))))))))))))))
