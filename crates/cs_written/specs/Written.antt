-- A text that is written token by token, and read as just these tokens (ECMA-334, 6.3 and 6.4).
use Rattle.std.specs.Prelude.{◌≡◌, ℕ, Bool, true, false, cond, not, ◌&&◌, ◌||◌, ◌==◌, nat_lt, List, [], ◌∷◌, ◌++◌, map, IsTrue, is_some}
use Rattle.cs_token.specs.declared.lexeme.Lexeme.{Lexeme}
use Rattle.cs_token.specs.declared.lexeme.Lexeme.TheVariants.{Name, Keyword, Number, Sign}
use Rattle.cs_token.specs.declared.tokens.Token.{Token}
use Rattle.cs_token.specs.Words.{is_blank, begins_comment, double_at}
use Rattle.cs_token.specs.Cuts.{AreTokens}
use Rattle.cs_written.specs.Spelled.{spelled, sign_spelled, IsSpellable}

-- Blanks and whole comments, outside a comment or in one. What stands behind them stands in no comment.
abbrev pub is_gap : Bool → List ℕ → Bool
is_gap inside [] = not inside
is_gap true (c ∷ rest) = is_gap (not (c == 10)) rest
is_gap false (c ∷ rest) = cond (is_blank c) (is_gap false rest) (begins_comment (c ∷ rest) && is_gap true rest)

-- names, keywords and numbers
abbrev pub is_word : Lexeme → Bool
is_word (Name name) = true
is_word (Keyword k) = true
is_word (Number n s) = true
is_word _ = false

-- the first character of a text
abbrev pub first_of : List ℕ → ℕ
first_of [] = 0
first_of (c ∷ rest) = c

-- a sign of one character that would be read otherwise before this one: as a sign of two, as two minus signs, or as a comment
abbrev pub clashes : ℕ → ℕ → Bool
clashes c d = is_some (double_at c d) || (c == 45 && d == 45) || (c == 47 && d == 47)

abbrev pub signs_clash : Lexeme → Lexeme → Bool
signs_clash (Sign j) (Sign k) = nat_lt j 24 && clashes (first_of (sign_spelled j)) (first_of (sign_spelled k))
signs_clash _ _ = false

-- the second token can't stand directly behind the first
abbrev pub needs_gap : Lexeme → Lexeme → Bool
needs_gap a b = is_word a && is_word b || signs_clash a b

-- between two tokens stands what begins with a blank, or nothing where no gap is needed
abbrev pub is_apart : Lexeme → List ℕ → Lexeme → Bool
is_apart a [] b = not (needs_gap a b)
is_apart a (c ∷ gap) b = is_blank c

-- behind the last token stands nothing, or what begins with a blank
abbrev pub may_end : List ℕ → Bool
may_end [] = true
may_end (c ∷ gap) = is_blank c

-- tokens, each behind its gap, and a last gap
abbrev pub written : List (List ℕ × Lexeme) → List ℕ → List ℕ
written [] last = last
written (p ∷ ps) last = p.0 ++ (spelled p.1 ++ written ps last)

-- they are written well: gaps are such, tokens can be written, and each stands apart from the next
abbrev pub StandsApart : Lexeme → List (List ℕ × Lexeme) → List ℕ → Type 0
StandsApart a [] last = IsTrue (may_end last)
StandsApart a (p ∷ ps) last = IsTrue (is_apart a p.0 p.1)

abbrev pub IsWritten : List (List ℕ × Lexeme) → List ℕ → Type 0
IsWritten [] last = IsTrue (is_gap false last)
IsWritten (p ∷ ps) last = IsTrue (is_gap false p.0) × IsSpellable p.1 × StandsApart p.1 ps last × IsWritten ps last

-- a text's tokens, without their places
abbrev pub AreLexemes : List ℕ → List Lexeme → Type 0
AreLexemes text ls = (ts : List Token) × AreTokens text ts × (map (λ t. t.lexeme) ts ≡ ls)

-- what is written well is read as just these tokens
abbrev pub WrittenIsRead : Type 0
WrittenIsRead = (ps : List (List ℕ × Lexeme)) (last : List ℕ) → IsWritten ps last → AreLexemes (written ps last) (map (λ p. p.1) ps)
