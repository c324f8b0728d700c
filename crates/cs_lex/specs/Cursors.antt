-- Inner facts of a place among the tokens of a text.
use Rattle.std.specs.Prelude.{◌≡◌, ℕ, zero, suc, false, List, [], ◌∷◌, Option, Some, None}
use Rattle.std.specs.Str.{chars}
use Rattle.cs_token.specs.declared.tokens.Token.{Token}
use Rattle.cs_token.specs.declared.lexeme.Lexeme.{Lexeme}
use Rattle.cs_token.specs.Words.{behind_gap}
use Rattle.cs_token.specs.Tokens.{token_at}
use Rattle.cs_token.specs.Cuts.{place_of}
use Rattle.cs_token.specs.Pieces.{Passes}
use Rattle.cs_lex.specs.Places.{At}

-- From here on, where a gap was passed, a text has so many tokens, and then this rest.
abbrev pub Counts : ℕ → List ℕ → List ℕ → Type 0
Counts zero text rest = rest ≡ text
Counts (suc n) text rest = (lexeme : Lexeme) × (more : List ℕ) × (token_at text ≡ Some (lexeme, more)) × Counts n (behind_gap false more) rest

abbrev pub HasTokens : ℕ → List ℕ → Type 0
HasTokens n text = (rest : List ℕ) × Counts n text rest

-- the first so many tokens from here on in a whole text
abbrev pub begun_by : List ℕ → List ℕ → Option (Lexeme × List ℕ) → (List ℕ → List Token) → List Token
begun_by whole text None more = []
begun_by whole text (Some p) more = record { lexeme = p.0; line = (place_of whole text).0; column = (place_of whole text).1 } ∷ more (behind_gap false p.1)

abbrev pub tokens_from : List ℕ → ℕ → List ℕ → List Token
tokens_from whole zero text = []
tokens_from whole (suc n) text = begun_by whole text (token_at text) (tokens_from whole n)

-- the token that a text begins with, at this place, and what stands behind it
abbrev pub IsNext : List ℕ → ℕ × ℕ → Option Token → List ℕ → Type 0
IsNext here at None behind = token_at (chars here) ≡ None
IsNext here at (Some t) behind = (token_at (chars here) ≡ Some (t.lexeme, chars behind)) × (t.line ≡ at.0) × (t.column ≡ at.1) × Passes behind here

-- what is known at a place among tokens
pub record IsCursor (source here : List ℕ) (at : ℕ × ℕ) (next : Option Token) (behind : List ℕ) (left : ℕ) : Type 0 where
  pub placed : At source here at
  pub counted : HasTokens left (chars here)
  pub begins : IsNext here at next behind
