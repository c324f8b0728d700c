-- Inner facts of the readers: what they know of a token before its value is made.
use Rattle.std.specs.Prelude.{◌≡◌, ℕ, ◌+◌, ◌*◌, ◌^◌, ◌<◌, cond, nat_lt, Bool, true, List, [], ◌∷◌, ◌++◌, length, encode_utf8, Option, Some, None}
use Rattle.std.specs.Char.{digit_value}
use Rattle.std.specs.Str.{chars}
use Rattle.unicode_ident.specs.Ident.{is_xid_continue}
use Rattle.cs_token.specs.declared.quotes.Units.{Units}
use Rattle.cs_token.specs.declared.quotes.Units.TheVariants as units
use Rattle.cs_token.specs.Words.{is_digit}
use Rattle.cs_token.specs.Tokens.{joined, text_at}

-- a rest of a text
pub record Follows (rest text : List ℕ) : Type 0 where
  pub front : List ℕ
  pub whole : text ≡ front ++ rest

-- a rest of a text, and not the whole of it
pub record Passes (rest text : List ℕ) : Type 0 where
  pub ends : Follows rest text
  pub shorter : length rest < length text

-- a character that passes a test, and a rest
pub record BeginsWith (passes : ℕ → Bool) (text : List ℕ) (c : ℕ) (rest : List ℕ) : Type 0 where
  pub read : text ≡ encode_utf8 c ++ rest
  pub seen : chars text ≡ c ∷ chars rest
  pub passed : passes c ≡ true
  pub shorter : length rest < length text

-- the first character passes a test
pub record Starts (passes : ℕ → Bool) (text : List ℕ) : Type 0 where
  pub first : ℕ
  pub rest : List ℕ
  pub seen : text ≡ first ∷ rest
  pub passed : passes first ≡ true

-- one character of a word, and a rest
abbrev pub BeginsWithPart : List ℕ → List ℕ → Type 0
BeginsWithPart text rest = (c : ℕ) × BeginsWith is_xid_continue text c rest

-- a digit with this value, and a rest
abbrev pub BeginsWithDigit : List ℕ → ℕ → List ℕ → Type 0
BeginsWithDigit text digit rest = (c : ℕ) × (digit_value c ≡ digit) × BeginsWith is_digit text c rest

-- a number with one more digit, where it is below 2^64
abbrev pub shifted : Option ℕ → ℕ → Option ℕ
shifted None digit = None
shifted (Some value) digit = let more = value * 10 + digit in cond (nat_lt more (2 ^ 64)) (Some more) None

-- the units of one character or escape
abbrev pub units_of : Units → List ℕ
units_of (units.One unit) = unit ∷ []
units_of (units.Two high low) = high ∷ low ∷ []

-- the units of a text from these ones on, or its end, and the rest
abbrev pub text_from : Option Units → List ℕ → Option (List ℕ × List ℕ)
text_from None rest = Some ([], rest)
text_from (Some units) rest = joined (units_of units) (text_at rest)

abbrev pub found_units : Option (List ℕ × List ℕ) → List ℕ
found_units None = []
found_units (Some p) = p.0
