-- Inner facts: pieces that are written well behind a gap, and leave one behind them. Gaps may hold comments.
use Rattle.std.specs.Prelude.{◌≡◌, ℕ, Bool, true, false, nat_lt, List, [], ◌∷◌, ◌++◌, Option, Some, None}
use Rattle.std.specs.List.{flat_map, list_all}
use Rattle.std.specs.Str.{all_scalars}
use Rattle.std.proofs.Math.Utf8.{encodes}
use Rattle.cs_token.specs.Words.{is_blank}
use Rattle.cs_token.specs.declared.lexeme.Lexeme.{Lexeme}
use Rattle.cs_written.specs.Written.{is_gap, is_apart, written, StandsApart, IsWritten}
use Rattle.cs_layout.specs.Pieces.{Piece, piece_bytes, tokens_behind, last_behind}

abbrev pub is_low : ℕ → Bool
is_low c = nat_lt c 128

abbrev pub begins_blank : List ℕ → Bool
begins_blank [] = false
begins_blank (c ∷ g) = is_blank c

-- behind a token a gap begins with a blank
abbrev pub IsBehind : Option Lexeme → List ℕ → Type 0
IsBehind None g = Unit {0}
IsBehind (Some l) g = begins_blank g ≡ true

-- a gap in ASCII that ends in no comment, behind a token or at the start of a text
pub record IsReady (before : Option Lexeme) (g : List ℕ) : Type 0 where
  pub ends : is_gap false g ≡ true
  pub low : list_all is_low g ≡ true
  pub blank : IsBehind before g

-- this token may stand behind that gap
abbrev pub Stands : Option Lexeme → List ℕ → Lexeme → Type 0
Stands None g l = Unit {0}
Stands (Some a) g l = is_apart a g l ≡ true

abbrev pub Apart : Option Lexeme → List (List ℕ × Lexeme) → List ℕ → Type 0
Apart None ts last = Unit {0}
Apart (Some a) ts last = StandsApart a ts last

-- behind this token and this gap the pieces are written well, and their bytes are a text
pub record WrittenBehind (before : Option Lexeme) (g : List ℕ) (ps : List Piece) : Type 0 where
  pub apart : Apart before (tokens_behind g ps) (last_behind g ps)
  pub well : IsWritten (tokens_behind g ps) (last_behind g ps)
  pub bytes : encodes g ++ flat_map piece_bytes ps ≡ encodes (written (tokens_behind g ps) (last_behind g ps))
  pub scalar : all_scalars (written (tokens_behind g ps) (last_behind g ps)) ≡ true

-- what may stand behind each gap may stand behind these pieces, and they behind each gap
pub record Lines (ps : List Piece) : Type 0 where
  pub lines : (before : Option Lexeme) (g : List ℕ) (qs : List Piece) → IsReady before g
      → ((b : Option Lexeme) (h : List ℕ) → IsReady b h → WrittenBehind b h qs) → WrittenBehind before g (ps ++ qs)
