-- What contracts see of a token: its value, and where it stands. Lines and columns count from 1, columns in characters.
use Rattle.std.specs.Prelude.{◌≡◌, ℕ, List, Option, Some, None}
use Rattle.std.specs.Str.{chars}
use Rattle.cs_token.specs.declared.lexeme.Lexeme.{Lexeme}
use Rattle.cs_token.specs.declared.lexeme.Lexeme.TheVariants.{Sign}
use Rattle.cs_token.specs.Tokens.{kind_of, token_at}

pub record Placed : Type 0 where
  pub lexeme : Lexeme
  pub line : ℕ
  pub column : ℕ

-- the token at the front of a text in UTF-8
abbrev pub found : Option (Lexeme × List ℕ) → Lexeme
found None = Sign 0
found (Some p) = p.0

abbrev pub lexeme_at : List ℕ → Lexeme
lexeme_at bytes = found (token_at (chars bytes))

-- a token of this kind stands at the front of a text in UTF-8
pub record Begins (bytes : List ℕ) (kind : ℕ) : Type 0 where
  pub lexeme : Lexeme
  pub rest : List ℕ
  pub stands : token_at (chars bytes) ≡ Some (lexeme, rest)
  pub kinded : kind ≡ kind_of lexeme
