-- Inner facts of the readers: the token that was read, before its value is made.
use Rattle.std.specs.Prelude.{◌≡◌, ℕ, List, Option, Some, IsSome}
use Rattle.std.specs.Str.{chars}
use Rattle.cs_token.specs.declared.lexeme.Lexeme.{Lexeme}
use Rattle.cs_token.specs.declared.lexeme.Lexeme.TheVariants.{Name, Keyword, Number, Char, Literal, Sign}
use Rattle.cs_token.specs.declared.pieces.Piece.{Piece}
use Rattle.cs_token.specs.declared.pieces.Piece.TheVariants as piece
use Rattle.cs_token.specs.Tokens.{text_at}
use Rattle.cs_token.specs.Pieces.{found_units}

-- the value of a token
abbrev pub lexeme_of : Piece → Lexeme
lexeme_of (piece.Name name) = Name name.now
lexeme_of (piece.Keyword k) = Keyword k
lexeme_of (piece.Number n s) = Number n s
lexeme_of (piece.Char unit) = Char unit
lexeme_of (piece.Literal text) = Literal (found_units (text_at (chars text.now)))
lexeme_of (piece.Sign k) = Sign k

-- a text in quotes has its closing quote
abbrev pub IsRead : Piece → Type 0
IsRead (piece.Literal text) = IsSome (text_at (chars text.now))
IsRead _ = Unit {0}

-- the token that stands there, and what stands behind it
abbrev pub IsFound : Option (Lexeme × List ℕ) → Piece → List ℕ → Type 0
IsFound wanted piece rest = (wanted ≡ Some (lexeme_of piece, rest)) × IsRead piece
