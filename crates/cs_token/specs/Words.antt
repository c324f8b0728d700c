-- What stands between tokens, and the signs, keywords and numbers (ECMA-334, 6.3 and 6.4). A text is the list of its
-- characters.
use Rattle.std.specs.Prelude.{ℕ, ◌+◌, ◌^◌, Bool, true, false, cond, not, ◌&&◌, ◌||◌, ◌==◌, nat_le, nat_lt, List, [], ◌∷◌, map, position, Option, Some, None, codes}
use Rattle.std.specs.Str.Parse.{digits_value}
use Rattle.cs_token.specs.declared.lexeme.Suffix.{Suffix}
use Rattle.cs_token.specs.declared.lexeme.Suffix.TheVariants as suffix

-- the characters at the front of a text that pass a test, up to the first that doesn't, and what stands behind them
abbrev pub front : (ℕ → Bool) → List ℕ → List ℕ
front passes [] = []
front passes (c ∷ rest) = cond (passes c) (c ∷ front passes rest) []

abbrev pub behind : (ℕ → Bool) → List ℕ → List ℕ
behind passes [] = []
behind passes (c ∷ rest) = cond (passes c) (behind passes rest) (c ∷ rest)

-- space, tab, return and newline
abbrev pub is_blank : ℕ → Bool
is_blank c = c == 32 || c == 9 || c == 13 || c == 10

-- the text begins with `//`
abbrev pub begins_comment : List ℕ → Bool
begins_comment [] = false
begins_comment (c ∷ []) = false
begins_comment (c ∷ d ∷ rest) = c == 47 && d == 47

-- What stands behind the blanks and comments at the front of a text, outside a comment or in one. A comment goes to the end
-- of its line.
abbrev pub behind_gap : Bool → List ℕ → List ℕ
behind_gap inside [] = []
behind_gap true (c ∷ rest) = behind_gap (not (c == 10)) rest
behind_gap false (c ∷ rest) =
    cond (is_blank c) (behind_gap false rest) (cond (begins_comment (c ∷ rest)) (behind_gap true rest) (c ∷ rest))

-- the signs of one character, and of two
abbrev pub singles : List ℕ
singles = codes "{}()[],;:.?=<>&|^+-*/%!~"

abbrev pub pair_of : List ℕ → ℕ × ℕ
pair_of [] = (0, 0)
pair_of (a ∷ []) = (a, 0)
pair_of (a ∷ b ∷ rest) = (a, b)

abbrev pub doubles : List (ℕ × ℕ)
doubles =
    map pair_of
    (codes "==" ∷ codes "!=" ∷ codes "<=" ∷ codes ">=" ∷ codes "<<" ∷ codes ">>" ∷ codes "&&" ∷ codes "||" ∷ codes "=>" ∷ codes "::" ∷
    codes "+=" ∷ codes "-=" ∷ codes "*=" ∷ codes "&=" ∷ codes "|=" ∷ codes "^=" ∷ [])

abbrev pub single_at : ℕ → Option ℕ
single_at c = position (λ s. s == c) singles

abbrev pub double_at : ℕ → ℕ → Option ℕ
double_at c d = position (λ s. s.0 == c && s.1 == d) doubles

-- The numbers of signs: those of one character from 0 on, behind them those of two. With the sign stands what is behind it.
abbrev pub of_one : Option ℕ → List ℕ → Option (ℕ × List ℕ)
of_one None rest = None
of_one (Some k) rest = Some (k, rest)

abbrev pub of_two : Option ℕ → List ℕ → Option (ℕ × List ℕ) → Option (ℕ × List ℕ)
of_two None rest one = one
of_two (Some k) rest one = Some (24 + k, rest)

-- the sign that a text begins with, the longer one of two; two minus signs are none
abbrev pub sign_at : List ℕ → Option (ℕ × List ℕ)
sign_at [] = None
sign_at (c ∷ []) = of_one (single_at c) []
sign_at (c ∷ d ∷ rest) = cond (c == 45 && d == 45) None (of_two (double_at c d) rest (of_one (single_at c) (d ∷ rest)))

abbrev pub is_digit : ℕ → Bool
is_digit c = nat_le 48 c && nat_le c 57

-- the suffix that a text begins with, and what stands behind it
abbrev pub behind_u : List ℕ → Suffix × List ℕ
behind_u [] = (suffix.Unsigned, [])
behind_u (c ∷ rest) = cond (c == 76) (suffix.UnsignedLong, rest) (suffix.Unsigned, c ∷ rest)

abbrev pub suffix_at : List ℕ → Suffix × List ℕ
suffix_at [] = (suffix.Plain, [])
suffix_at (c ∷ rest) = cond (c == 85) (behind_u rest) (cond (c == 76) (suffix.Long, rest) (suffix.Plain, c ∷ rest))

-- the number that decimal digits write, where it is below 2^64
abbrev pub number_of : List ℕ → Option ℕ
number_of digits = let n = digits_value 10 digits in cond (nat_lt n (2 ^ 64)) (Some n) None
