-- What is sound is written well.
use Rattle.std.proofs.Common.{◌≡◌, ◌⊎◌, inl, inr, ℕ, Bool, true, false, cond, ◌&&◌, List, [], ◌∷◌, ◌++◌, Some, refl, ◌∙◌, ap, subst}
use Rattle.std.specs.List.{list_all}
use Rattle.cs_token.specs.Words.{is_blank, begins_comment}
use Rattle.cs_token.specs.declared.lexeme.Lexeme.{Lexeme}
use Rattle.cs_written.specs.Written.{is_gap, is_apart, may_end, StandsApart, IsWritten}
use Rattle.cs_layout.specs.Pieces.{Piece, gap, token, tokens_behind, last_behind, has_blank_gaps}
use Rattle.cs_roundtrip_written.specs.Sound.{Before, fits, after_gap, Well}

both : (a b : Bool) → (a && b) ≡ true → (a ≡ true) × (b ≡ true)
both true b e = (refl, e)
both false b e = absurd (cc)

pub blanks_append : (g h : List ℕ) → list_all is_blank g ≡ true → list_all is_blank h ≡ true → list_all is_blank (g ++ h) ≡ true
blanks_append [] h a b = b
blanks_append (c ∷ g) h a b = let p = both (is_blank c) (list_all is_blank g) a in ap (λ z. z && list_all is_blank (g ++ h)) p.0 ∙ blanks_append g h p.1 b

pub blanks_gap : (g : List ℕ) → list_all is_blank g ≡ true → is_gap false g ≡ true
blanks_gap [] h = refl
blanks_gap (c ∷ g) h =
    let p = both (is_blank c) (list_all is_blank g) h in
    ap (λ z. cond z (is_gap false g) (begins_comment (c ∷ g) && is_gap true g)) p.0 ∙ blanks_gap g p.1

pub gaps_are_blank : (s : Before) (ps : List Piece) → Well s ps → has_blank_gaps ps ≡ true
gaps_are_blank s [] w = refl
gaps_are_blank s (gap g ∷ ps) w = ap (λ z. z && has_blank_gaps ps) w.0 ∙ gaps_are_blank (after_gap s g) ps w.1
gaps_are_blank s (token l ∷ ps) w = gaps_are_blank (Some l) ps w.2

-- the gap so far, where this token stands before it
abbrev Gapped : Lexeme → Before → List ℕ → Type 0
Gapped a s g = ((s ≡ Some a) × (g ≡ [])) ⊎ ((c : ℕ) × (rest : List ℕ) × (g ≡ c ∷ rest))

gapped_more : (a : Lexeme) (s : Before) (g h : List ℕ) → Gapped a s g → Gapped a (after_gap s h) (g ++ h)
gapped_more a s g [] (inl p) = inl (p.0, ap (λ z. z ++ []) p.1)
gapped_more a s g (c ∷ h) (inl p) = inr (c, h, ap (λ z. z ++ (c ∷ h)) p.1)
gapped_more a s g h (inr p) = inr (p.0, p.1 ++ h, ap (λ z. z ++ h) p.2)

ends_apart : (a : Lexeme) (s : Before) (g : List ℕ) → list_all is_blank g ≡ true → may_end g ≡ true
ends_apart a s [] h = refl
ends_apart a s (c ∷ g) h = (both (is_blank c) (list_all is_blank g) h).0

is_apart_by : (a : Lexeme) (s : Before) (g : List ℕ) (l : Lexeme) → list_all is_blank g ≡ true → Gapped a s g → fits s l ≡ true → is_apart a g l ≡ true
is_apart_by a s [] l h (inl p) f = subst (λ z. fits z l ≡ true) p.0 f
is_apart_by a s [] l h (inr p) f = absurd (nothing p.0 p.1 p.2)
  where
    nothing : (c : ℕ) (rest : List ℕ) → [] ≡ c ∷ rest → ⊥
    nothing c rest e = cc
is_apart_by a s (c ∷ g) l h p f = (both (is_blank c) (list_all is_blank g) h).0

stands_apart : (a : Lexeme) (s : Before) (g : List ℕ) (ps : List Piece) → list_all is_blank g ≡ true → Gapped a s g → Well s ps → StandsApart a (tokens_behind g ps) (last_behind g ps)
stands_apart a s g [] h p w = ends_apart a s g h
stands_apart a s g (gap b ∷ ps) h p w = stands_apart a (after_gap s b) (g ++ b) ps (blanks_append g b h w.0) (gapped_more a s g b p) w.1
stands_apart a s g (token l ∷ ps) h p w = is_apart_by a s g l h p w.1

pub written_from : (s : Before) (g : List ℕ) (ps : List Piece) → list_all is_blank g ≡ true → Well s ps → IsWritten (tokens_behind g ps) (last_behind g ps)
written_from s g [] h w = blanks_gap g h
written_from s g (gap b ∷ ps) h w = written_from (after_gap s b) (g ++ b) ps (blanks_append g b h w.0) w.1
written_from s g (token l ∷ ps) h w = (blanks_gap g h, w.0, stands_apart l (Some l) [] ps refl (inl (refl, refl)) w.2, written_from (Some l) [] ps refl w.2)
