-- Inner facts: pieces that are written well behind what stands before them.
use Rattle.std.specs.Prelude.{◌≡◌, ℕ, ◌≤◌, Bool, true, false, not, List, [], ◌∷◌, Option, Some, None}
use Rattle.std.specs.List.{list_all}
use Rattle.cs_token.specs.Words.{is_blank}
use Rattle.cs_token.specs.declared.lexeme.Lexeme.{Lexeme}
use Rattle.cs_token.specs.declared.lexeme.Lexeme.TheVariants.{Sign}
use Rattle.cs_tree.specs.declared.forms.Form.{Form}
use Rattle.cs_written.specs.Spelled.{IsSpellable}
use Rattle.cs_written.specs.Written.{needs_gap}
use Rattle.cs_layout.specs.Pieces.{Piece, gap, token}
use Rattle.cs_layout.specs.Layout.{form_shown}

-- the token that stands directly before, or none where a gap does, or nothing
abbrev pub Before : Type 0
Before = Option Lexeme

-- this token may stand there
abbrev pub fits : Before → Lexeme → Bool
fits None l = true
fits (Some a) l = not (needs_gap a l)

abbrev pub after_gap : Before → List ℕ → Before
after_gap s [] = s
after_gap s (c ∷ g) = None

-- what stands before what is behind the pieces
abbrev pub after : Before → List Piece → Before
after s [] = s
after s (gap g ∷ ps) = after (after_gap s g) ps
after s (token l ∷ ps) = after (Some l) ps

-- gaps are blanks, tokens can be written, and each may stand where it does
abbrev pub Well : Before → List Piece → Type 0
Well s [] = Unit {0}
Well s (gap g ∷ ps) = (list_all is_blank g ≡ true) × Well (after_gap s g) ps
Well s (token l ∷ ps) = IsSpellable l × (fits s l ≡ true) × Well (Some l) ps

-- behind what is so, the pieces are written well, and what is behind them is so
pub record Sound (Pre : Before → Type 0) (ps : List Piece) (Post : Before → Type 0) : Type 0 where
  pub sound : (s : Before) → Pre s → Well s ps × Post (after s ps)

-- just this stands before
abbrev pub Is : Before → Before → Type 0
Is t s = s ≡ t

-- any token may stand there, or any sign
abbrev pub Free : Before → Type 0
Free s = (l : Lexeme) → fits s l ≡ true

abbrev pub Closed : Before → Type 0
Closed s = (k : ℕ) → fits s (Sign k) ≡ true

abbrev pub is_sign : Lexeme → Bool
is_sign (Sign k) = true
is_sign _ = false

-- an operand may stand there: a word, a literal, `(`, `!`, `~`, and maybe `-`
pub record Takes (minus : Bool) (s : Before) : Type 0 where
  pub words : (l : Lexeme) → is_sign l ≡ false → fits s l ≡ true
  pub paren : fits s (Sign 2) ≡ true
  pub bang : fits s (Sign 22) ≡ true
  pub tilde : fits s (Sign 23) ≡ true
  pub signed : minus ≡ true → fits s (Sign 18) ≡ true

-- an expression behind what any token may follow; behind an operator before it; and behind a `-` where it is no operand of one
pub record FormSound (f : Form) (ps : List Piece) : Type 0 where
  pub any : Sound Free ps Closed
  pub tight : 11 ≤ (form_shown f).level → Sound (Takes ((form_shown f).is_minus)) ps Closed
  pub plain : 12 ≤ (form_shown f).level → Sound (Takes false) ps Closed
