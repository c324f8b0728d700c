-- Inner facts: pieces that a grammar derives before any tokens.
use Rattle.std.specs.Prelude.{◌≡◌, List, [], ◌∷◌, ◌++◌, map}
use Rattle.cs_token.specs.Placed.{Placed as Token}
use Rattle.cs_token.specs.declared.lexeme.Lexeme.{Lexeme}
use Rattle.cs_grammar.specs.Grammar.{Grammar}
use Rattle.cs_layout.specs.Pieces.{Piece, gap, token}

-- the tokens of pieces
abbrev pub lexemes : List Piece → List Lexeme
lexemes [] = []
lexemes (gap g ∷ ps) = lexemes ps
lexemes (token l ∷ ps) = l ∷ lexemes ps

abbrev pub lexemes_of : List Token → List Lexeme
lexemes_of ts = map (λ t. t.lexeme) ts

-- these tokens and what stands behind them are derived
abbrev pub Found : {A : Type 0} → Grammar Token A → (A → Type 0) → List Token → List Token → Type 0
Found {A} g P ts rest = (a : A) × P a × g.derives ts a rest

-- tokens of the pieces are a value that is so, whatever stands behind them
pub record Spells {A : Type 0} (g : Grammar Token A) (ps : List Piece) (P : A → Type 0) : Type 0 where
  pub spells : (ts : List Token) → lexemes_of ts ≡ lexemes ps → (rest : List Token) → Found g P (ts ++ rest) rest
