-- What a printed text is made of: tokens, with blanks and newlines between them.
use Rattle.std.specs.Prelude.{◌≡◌, ℕ, Bool, true, ◌&&◌, List, [], ◌∷◌, ◌++◌, IsTrue}
use Rattle.std.specs.List.{flat_map, list_all}
use Rattle.std.proofs.Math.Utf8.{encodes}
use Rattle.cs_token.specs.declared.lexeme.Lexeme.{Lexeme}
use Rattle.cs_token.specs.declared.lexeme.Lexeme.TheVariants.{Name, Keyword, Sign}
use Rattle.cs_token.specs.Words.{is_blank}
use Rattle.cs_written.specs.Spelled.{spelled}
use Rattle.cs_written.specs.Written.{written}

-- blanks and newlines, or a token
pub data Piece : Type 0 where
  gap : List ℕ → Piece
  token : Lexeme → Piece

-- its bytes
abbrev pub piece_bytes : Piece → List ℕ
piece_bytes (gap g) = g
piece_bytes (token l) = encodes (spelled l)

-- a text in UTF-8 with pieces behind it
unfoldable pub followed : List ℕ → List Piece → List ℕ
followed before ps = before ++ flat_map piece_bytes ps

-- the tokens of pieces, each with the gap before it, and the gap behind the last one
abbrev pub tokens_behind : List ℕ → List Piece → List (List ℕ × Lexeme)
tokens_behind g [] = []
tokens_behind g (gap h ∷ ps) = tokens_behind (g ++ h) ps
tokens_behind g (token l ∷ ps) = (g, l) ∷ tokens_behind [] ps

abbrev pub last_behind : List ℕ → List Piece → List ℕ
last_behind g [] = g
last_behind g (gap h ∷ ps) = last_behind (g ++ h) ps
last_behind g (token l ∷ ps) = last_behind [] ps

abbrev pub tokens : List Piece → List (List ℕ × Lexeme)
tokens ps = tokens_behind [] ps

abbrev pub last : List Piece → List ℕ
last ps = last_behind [] ps

-- blanks and newlines alone stand between the tokens
abbrev pub has_blank_gaps : List Piece → Bool
has_blank_gaps [] = true
has_blank_gaps (gap g ∷ ps) = list_all is_blank g && has_blank_gaps ps
has_blank_gaps (token l ∷ ps) = has_blank_gaps ps

-- pieces are these tokens, written with these gaps
abbrev pub LaidIsWritten : Type 0
LaidIsWritten = (ps : List Piece) → IsTrue (has_blank_gaps ps) → flat_map piece_bytes ps ≡ encodes (written (tokens ps) (last ps))

-- a blank, and single tokens
abbrev pub blank : Piece
blank = gap (32 ∷ [])

abbrev pub newline : Piece
newline = gap (10 ∷ [])

abbrev pub sign : ℕ → Piece
sign k = token (Sign k)

abbrev pub keyword : ℕ → Piece
keyword k = token (Keyword k)

abbrev pub word : List ℕ → Piece
word name = token (Name name)
