-- How a token is written (ECMA-334, 6.4). A text is the list of its characters.
use Rattle.std.specs.Prelude.{ℕ, ◌-◌, ◌/◌, ◌%◌, ◌^◌, ◌<◌, cond, ◌&&◌, ◌||◌, ◌==◌, nat_le, nat_lt, List, [], ◌∷◌, ◌++◌, All, IsTrue, IsUtf8, slice_index, slice_index_or, codes}
use Rattle.std.specs.List.{flat_map}
use Rattle.std.specs.Char.{digit_char}
use Rattle.std.specs.Fmt.{decimal}
use Rattle.std.specs.Str.{chars}
use Rattle.dc_base.specs.Identifiers.{keywords, is_keyword, is_legal}
use Rattle.cs_token.specs.declared.lexeme.Suffix.{Suffix}
use Rattle.cs_token.specs.declared.lexeme.Suffix.TheVariants as suffix
use Rattle.cs_token.specs.declared.lexeme.Lexeme.{Lexeme}
use Rattle.cs_token.specs.declared.lexeme.Lexeme.TheVariants.{Name, Keyword, Number, Char, Literal, Sign}
use Rattle.cs_token.specs.Words.{singles, doubles}

-- a name, behind an `@` where it is a keyword's word
abbrev pub name_spelled : List ℕ → List ℕ
name_spelled name = cond (is_keyword name) (64 ∷ chars name) (chars name)

-- the letters of a suffix
abbrev pub suffix_spelled : Suffix → List ℕ
suffix_spelled suffix.Plain = []
suffix_spelled suffix.Unsigned = 85 ∷ []
suffix_spelled suffix.Long = 76 ∷ []
suffix_spelled suffix.UnsignedLong = 85 ∷ 76 ∷ []

-- four hexadecimal digits, in small letters
abbrev pub hex_spelled : ℕ → List ℕ
hex_spelled unit =
    digit_char (unit / 16 / 16 / 16) ∷ digit_char (unit / 16 / 16 % 16) ∷ digit_char (unit / 16 % 16) ∷ digit_char (unit % 16) ∷ []

-- A UTF-16 unit between these quotes (6.4.5.5): the quote, `\`, 0, newline, return and tab by their short escapes, those from
-- space to `~` as they are, each other one by its number.
abbrev pub unit_spelled : ℕ → ℕ → List ℕ
unit_spelled quote unit =
    cond (unit == 92 || unit == quote) (92 ∷ unit ∷ [])
    (cond (unit == 0) (codes "\\0")
    (cond (unit == 10) (codes "\\n")
    (cond (unit == 13) (codes "\\r")
    (cond (unit == 9) (codes "\\t") (cond (nat_le 32 unit && nat_le unit 126) (unit ∷ []) (92 ∷ 117 ∷ hex_spelled unit))))))

-- a sign by its number: those of one character first
abbrev pub pair_spelled : ℕ × ℕ → List ℕ
pair_spelled p = p.0 ∷ p.1 ∷ []

abbrev pub sign_spelled : ℕ → List ℕ
sign_spelled k = cond (nat_lt k 24) (slice_index singles k ∷ []) (pair_spelled (slice_index_or doubles (k - 24) (0, 0)))

abbrev pub spelled : Lexeme → List ℕ
spelled (Name name) = name_spelled name
spelled (Keyword k) = slice_index_or keywords k []
spelled (Number n s) = decimal n ++ suffix_spelled s
spelled (Char unit) = 39 ∷ (unit_spelled 39 unit ++ 39 ∷ [])
spelled (Literal units) = 34 ∷ (flat_map (unit_spelled 34) units ++ 34 ∷ [])
spelled (Sign k) = sign_spelled k

-- a token that can be written: a name in UTF-8 that may stand as an identifier, and numbers in their ranges
abbrev pub IsSpellable : Lexeme → Type 0
IsSpellable (Name name) = IsUtf8 name × IsTrue (is_legal (chars name))
IsSpellable (Keyword k) = k < 77
IsSpellable (Number n s) = n < 2 ^ 64
IsSpellable (Char unit) = unit < 2 ^ 16
IsSpellable (Literal units) = All (λ unit. unit < 2 ^ 16) units
IsSpellable (Sign k) = k < 40
