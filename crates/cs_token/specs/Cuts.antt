-- A text as tokens with blanks and comments between them (ECMA-334, 6.3 and 6.4). As one token at most stands at a place, a
-- text is cut into tokens in one way.
use Rattle.std.specs.Prelude.{◌≡◌, ℕ, ◌+◌, ◌-◌, false, cond, ◌==◌, List, [], ◌∷◌, length, take, Some, None}
use Rattle.cs_token.specs.declared.tokens.Token.{Token}
use Rattle.cs_token.specs.Words.{behind_gap}
use Rattle.cs_token.specs.Tokens.{token_at}

-- line and column behind these characters
abbrev pub place_after : ℕ × ℕ → List ℕ → ℕ × ℕ
place_after place [] = place
place_after place (c ∷ rest) = place_after (cond (c == 10) (place.0 + 1, 1) (place.0, place.1 + 1)) rest

-- line and column of the place in a text from which on this is left
abbrev pub place_of : List ℕ → List ℕ → ℕ × ℕ
place_of whole left = place_after (1, 1) (take (length whole - length left) whole)

-- where a token stands
abbrev pub place : Token → ℕ × ℕ
place t = (t.line, t.column)

-- From here on the text has these tokens, with blanks and comments between them, and then the rest, which begins with none.
abbrev pub Cuts : List ℕ → List ℕ → List Token → List ℕ → Type 0
Cuts whole left [] rest = rest ≡ behind_gap false left
Cuts whole left (t ∷ ts) rest =
    (more : List ℕ) × (token_at (behind_gap false left) ≡ Some (t.lexeme, more)) × (place t ≡ place_of whole (behind_gap false left)) × Cuts whole more ts rest

-- a text is these tokens
abbrev pub AreTokens : List ℕ → List Token → Type 0
AreTokens text ts = Cuts text text ts []

-- a text begins with these tokens, and no token stands at the rest
abbrev pub AreTokensUpTo : List ℕ → List Token → List ℕ → Type 0
AreTokensUpTo text ts rest = Cuts text text ts rest × (token_at rest ≡ None)

-- a text is cut in one way, up to its end or up to a place where no token stands
abbrev pub HasOneCut : Type 0
HasOneCut = (text : List ℕ) (ts us : List Token) (rest other : List ℕ) → AreTokensUpTo text ts rest → AreTokensUpTo text us other → (ts ≡ us) × (rest ≡ other)
