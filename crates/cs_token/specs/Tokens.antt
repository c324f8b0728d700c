-- The token that a text begins with (ECMA-334, 6.4). One token at most stands at a place, as a function says, and it is as
-- long as it can be. A text is the list of its characters.
use Rattle.std.specs.Prelude.{ℕ, zero, suc, ◌+◌, ◌*◌, cond, ◌||◌, ◌==◌, nat_lt, List, [], ◌∷◌, ◌++◌, length, position, Option, Some, None, option_and_then, is_some, codes}
use Rattle.std.specs.Str.{bytes_eq}
use Rattle.std.specs.Char.{digit_value}
use Rattle.std.specs.Char.Escape.{encode_utf16}
use Rattle.std.proofs.Math.Utf8.{encodes}
use Rattle.unicode_ident.specs.Ident.{is_xid_start, is_xid_continue}
use Rattle.dc_base.specs.Identifiers.{keywords}
use Rattle.cs_token.specs.declared.lexeme.Suffix.{Suffix}
use Rattle.cs_token.specs.declared.lexeme.Suffix.TheVariants as suffix
use Rattle.cs_token.specs.declared.lexeme.Lexeme.{Lexeme}
use Rattle.cs_token.specs.declared.lexeme.Lexeme.TheVariants.{Name, Keyword, Number, Char, Literal, Sign}
use Rattle.cs_token.specs.Words.{front, behind, is_digit, number_of, suffix_at, sign_at}

-- The kinds by which a grammar tells tokens apart. Names that mean something of their own at some places (6.4.4, contextual
-- keywords) have kinds of their own, and so have numbers with a suffix.
abbrev pub kind_of_name : List ℕ → ℕ
kind_of_name name =
    cond (bytes_eq name (codes "global")) 4
    (cond (bytes_eq name (codes "get")) 5 (cond (bytes_eq name (codes "set")) 6 (cond (bytes_eq name (codes "indexer")) 7 0)))

abbrev pub kind_of_number : Suffix → ℕ
kind_of_number suffix.Plain = 1
kind_of_number _ = 8

abbrev pub kind_of : Lexeme → ℕ
kind_of (Name text) = kind_of_name text
kind_of (Number n s) = kind_of_number s
kind_of (Char unit) = 2
kind_of (Literal units) = 3
kind_of (Sign k) = 10 + k
kind_of (Keyword k) = 60 + k

-- the number of a keyword (6.4.4), from 0 in the order of their letters
abbrev pub keyword_number : List ℕ → Option ℕ
keyword_number word = position (λ k. bytes_eq k word) keywords

-- names and keywords, whose letters are kept in UTF-8
abbrev pub numbered_name : Option ℕ → List ℕ → Lexeme
numbered_name None word = Name word
numbered_name (Some k) word = Keyword k

abbrev pub named : List ℕ → Lexeme
named word = numbered_name (keyword_number word) word

-- `@` makes a name of a keyword, and of nothing else
abbrev pub escaped_name : Option ℕ → List ℕ → List ℕ → Option (Lexeme × List ℕ)
escaped_name None word rest = None
escaped_name (Some k) word rest = Some (Name word, rest)

abbrev pub escaped : List ℕ → List ℕ → Option (Lexeme × List ℕ)
escaped word rest = escaped_name (keyword_number word) word rest

-- decimal digits below 2^64, and a suffix (6.4.5.3)
abbrev pub numbered : Option ℕ → Suffix × List ℕ → Option (Lexeme × List ℕ)
numbered None p = None
numbered (Some n) p = Some (Number n p.0, p.1)

-- a hexadecimal digit, in capitals or not, and what stands behind it
abbrev pub hex_digit_at : List ℕ → Option (ℕ × List ℕ)
hex_digit_at [] = None
hex_digit_at (c ∷ rest) = let value = digit_value c in cond (nat_lt value 16) (Some (value, rest)) None

-- the unit of four hexadecimal digits, and what stands behind them
infixl 10 ◌>>=◌
abbrev pub ◌>>=◌ : {A B : Type 0} → Option A → (A → Option B) → Option B
o >>= f = option_and_then f o

abbrev pub hex_at : List ℕ → Option (ℕ × List ℕ)
hex_at text = do
  a ← hex_digit_at text
  b ← hex_digit_at a.1
  c ← hex_digit_at b.1
  d ← hex_digit_at c.1
  Some (((a.0 * 16 + b.0) * 16 + c.0) * 16 + d.0, d.1)

-- what stands behind a `\`: the unit that the escape is, and the rest (6.4.5.5)
abbrev pub escape_of : ℕ → Option ℕ
escape_of c =
    cond (c == 92 || c == 34 || c == 39) (Some c)
    (cond (c == 48) (Some 0) (cond (c == 110) (Some 10) (cond (c == 114) (Some 13) (cond (c == 116) (Some 9) None))))

abbrev pub with_rest : Option ℕ → List ℕ → Option (ℕ × List ℕ)
with_rest None rest = None
with_rest (Some unit) rest = Some (unit, rest)

abbrev pub escape_at : List ℕ → Option (ℕ × List ℕ)
escape_at [] = None
escape_at (c ∷ rest) = cond (c == 117) (hex_at rest) (with_rest (escape_of c) rest)

-- one character or escape in quotes: its UTF-16 units, and the rest. A return and a newline are none
abbrev pub one_unit : Option (ℕ × List ℕ) → Option (List ℕ × List ℕ)
one_unit None = None
one_unit (Some p) = Some (p.0 ∷ [], p.1)

abbrev pub units_at : List ℕ → Option (List ℕ × List ℕ)
units_at [] = None
units_at (c ∷ rest) = cond (c == 92) (one_unit (escape_at rest)) (cond (c == 10 || c == 13) None (Some (encode_utf16 c, rest)))

-- what stands behind this quote
abbrev pub behind_quote : ℕ → List ℕ → Option (List ℕ)
behind_quote quote [] = None
behind_quote quote (c ∷ rest) = cond (c == quote) (Some rest) None

-- behind an opening quote: one unit and the quote (6.4.5.5)
abbrev pub only_unit : List ℕ → Option ℕ
only_unit (unit ∷ []) = Some unit
only_unit _ = None

abbrev pub one_char : List ℕ → Option (ℕ × List ℕ)
one_char text = do
  p ← units_at text
  unit ← only_unit p.0
  rest ← behind_quote 39 p.1
  Some (unit, rest)

abbrev pub char_at : List ℕ → Option (ℕ × List ℕ)
char_at text = cond (is_some (behind_quote 39 text)) None (one_char text)

-- behind an opening double quote: the units up to the next one, among at most so many characters (6.4.5.6)
abbrev pub joined : List ℕ → Option (List ℕ × List ℕ) → Option (List ℕ × List ℕ)
joined units None = None
joined units (Some p) = Some (units ++ p.0, p.1)

abbrev pub onward : Option (List ℕ × List ℕ) → (List ℕ → Option (List ℕ × List ℕ)) → Option (List ℕ × List ℕ)
onward None f = None
onward (Some p) f = joined p.0 (f p.1)

abbrev pub text_within : ℕ → List ℕ → Option (List ℕ × List ℕ)
text_within zero text = None
text_within (suc n) [] = None
text_within (suc n) (c ∷ rest) = cond (c == 34) (Some ([], rest)) (onward (units_at (c ∷ rest)) (text_within n))

abbrev pub text_at : List ℕ → Option (List ℕ × List ℕ)
text_at text = text_within (length text) text

-- a value of a token and the rest
abbrev pub made : {A : Type 0} → (A → Lexeme) → Option (A × List ℕ) → Option (Lexeme × List ℕ)
made f None = None
made f (Some p) = Some (f p.0, p.1)

-- the token that a text begins with, and what stands behind it
abbrev pub token_at : List ℕ → Option (Lexeme × List ℕ)
token_at [] = None
token_at (c ∷ rest) =
    cond (c == 95 || is_xid_start c) (Some (named (encodes (c ∷ front is_xid_continue rest)), behind is_xid_continue rest))
    (cond (c == 64) (escaped (encodes (front is_xid_continue rest)) (behind is_xid_continue rest))
    (cond (is_digit c) (numbered (number_of (front is_digit (c ∷ rest))) (suffix_at (behind is_digit (c ∷ rest))))
    (cond (c == 39) (made (λ unit. Char unit) (char_at rest))
    (cond (c == 34) (made (λ units. Literal units) (text_at rest)) (made (λ k. Sign k) (sign_at (c ∷ rest)))))))
