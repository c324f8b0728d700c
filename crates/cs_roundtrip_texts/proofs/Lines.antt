-- Lines that are put together: tokens and gaps, and lines of comments.
use Rattle.std.proofs.Common.{◌≡◌, ℕ, Bool, true, false, cond, List, [], ◌∷◌, ◌++◌, Option, Some, None, refl, sym, ◌∙◌, ap, subst}
use Rattle.std.specs.Prelude.{not, ◌&&◌, ◌==◌}
use Rattle.std.specs.List.{flat_map, list_all}
use Rattle.std.proofs.Math.Utf8.{encodes}
use Rattle.std.proofs.lemmas.List.{append_assoc}
use Rattle.std.proofs.lemmas.List.Folds.{list_all-append}
use Rattle.std.proofs.lemmas.Str.{encodes-append}
use Rattle.std.proofs.lemmas.Bool.Decides.{nat_tests}
use Rattle.std.proofs.Common.{arith}
use Rattle.cs_token.specs.Words.{is_blank, begins_comment}
use Rattle.cs_token.specs.declared.lexeme.Lexeme.{Lexeme}
use Rattle.cs_written.specs.Spelled.{spelled, IsSpellable}
use Rattle.cs_written.specs.Written.{is_gap, is_apart, written}
use Rattle.cs_written.proofs.Basics.{both_true}
use Rattle.cs_layout.specs.Pieces.{Piece, gap, token, piece_bytes, tokens_behind, last_behind}
use Rattle.cs_roundtrip_written.specs.Sound.{Before, fits, after_gap, after, Well, Sound, Is}
use Rattle.cs_roundtrip_written.proofs.Texts.{blanks_gap}
use Rattle.cs_roundtrip_texts.specs.Lines.{is_low, begins_blank, IsBehind, IsReady, Stands, Apart, WrittenBehind, Lines}
use Rattle.cs_roundtrip_texts.proofs.Spelled.{and_both, scalars_append, low_scalars, low_bytes, spelled_scalars}

-- gaps that are put together

still_comment : (c : ℕ) (g x : List ℕ) → begins_comment (c ∷ g) ≡ true → begins_comment (c ∷ (g ++ x)) ≡ true
still_comment c [] x h = absurd (cc)
still_comment c (d ∷ g) x h = h

gap_by : (b : Bool) (c : ℕ) (g x : List ℕ) → cond b (is_gap false g) (begins_comment (c ∷ g) && is_gap true g) ≡ true
    → (is_gap false g ≡ true → is_gap false (g ++ x) ≡ true) → (is_gap true g ≡ true → is_gap true (g ++ x) ≡ true)
    → cond b (is_gap false (g ++ x)) (begins_comment (c ∷ (g ++ x)) && is_gap true (g ++ x)) ≡ true
gap_by true c g x h blank comment = blank h
gap_by false c g x h blank comment =
    let each = both_true (begins_comment (c ∷ g)) (is_gap true g) h in
    and_both _ _ (still_comment c g x each.0) (comment each.1)

gap_append : (inside : Bool) (g x : List ℕ) → is_gap inside g ≡ true → is_gap false x ≡ true → is_gap inside (g ++ x) ≡ true
gap_append true [] x h k = absurd (cc)
gap_append false [] x h k = k
gap_append true (c ∷ g) x h k = gap_append (not (c == 10)) g x h k
gap_append false (c ∷ g) x h k = gap_by (is_blank c) c g x h (λ b. gap_append false g x b k) (λ b. gap_append true g x b k)

still_behind : (before : Option Lexeme) (g x : List ℕ) → IsBehind before g → IsBehind before (g ++ x)
still_behind None g x h = tt
still_behind (Some a) [] x h = absurd (cc)
still_behind (Some a) (c ∷ g) x h = h

low_append : (g x : List ℕ) → list_all is_low g ≡ true → list_all is_low x ≡ true → list_all is_low (g ++ x) ≡ true
low_append g x h k = list_all-append is_low g x ∙ and_both _ _ h k

pub ready_more : (before : Option Lexeme) (g x : List ℕ) → IsReady before g → is_gap false x ≡ true → list_all is_low x ≡ true → IsReady before (g ++ x)
ready_more before g x r e l = record { ends = gap_append false g x r.ends e; low = low_append g x r.low l; blank = still_behind before g x r.blank }

blank_low : (c : ℕ) → is_blank c ≡ true → is_low c ≡ true
blank_low c h = grind (arith, nat_tests, h)

pub blanks_low : (g : List ℕ) → list_all is_blank g ≡ true → list_all is_low g ≡ true
blanks_low [] h = refl
blanks_low (c ∷ g) h = let each = both_true (is_blank c) (list_all is_blank g) h in and_both _ _ (blank_low c each.0) (blanks_low g each.1)

ready_blanks : (before : Option Lexeme) (g x : List ℕ) → IsReady before g → list_all is_blank x ≡ true → IsReady before (g ++ x)
ready_blanks before g x r h = ready_more before g x r (blanks_gap x h) (blanks_low x h)

-- a gap and a token before what is written well

pub written_gap : (before : Option Lexeme) (g x : List ℕ) (ps : List Piece) → list_all is_low x ≡ true → WrittenBehind before (g ++ x) ps → WrittenBehind before g (gap x ∷ ps)
written_gap before g x ps low w =
    let rest = flat_map piece_bytes ps in
    record {
      apart = w.apart;
      well = w.well;
      bytes = ap (λ z. encodes g ++ (z ++ rest)) (sym (low_bytes x low)) ∙ (sym (append_assoc (encodes g) (encodes x) rest) ∙ (ap (λ z. z ++ rest) (sym (encodes-append g x)) ∙ w.bytes));
      scalar = w.scalar;
    }

apart_by : (before : Option Lexeme) (g : List ℕ) (l : Lexeme) (ts : List (List ℕ × Lexeme)) (last : List ℕ) → Stands before g l → Apart before ((g, l) ∷ ts) last
apart_by None g l ts last h = tt
apart_by (Some a) g l ts last h = h

written_token : (before : Option Lexeme) (g : List ℕ) (l : Lexeme) (ps : List Piece) → is_gap false g ≡ true → list_all is_low g ≡ true → IsSpellable l → Stands before g l
    → WrittenBehind (Some l) [] ps → WrittenBehind before g (token l ∷ ps)
written_token before g l ps ends low spells may w =
    let more = written (tokens_behind [] ps) (last_behind [] ps) in
    record {
      apart = apart_by before g l (tokens_behind [] ps) (last_behind [] ps) may;
      well = (ends, spells, w.apart, w.well);
      bytes = ap (λ z. encodes g ++ (encodes (spelled l) ++ z)) w.bytes ∙ (ap (λ z. encodes g ++ z) (sym (encodes-append (spelled l) more)) ∙ sym (encodes-append g (spelled l ++ more)));
      scalar = scalars_append g (spelled l ++ more) (low_scalars g low) (scalars_append (spelled l) more (spelled_scalars l spells) w.scalar);
    }

-- what stands before, as pieces go on

abbrev Held : Before → Option Lexeme → List ℕ → Type 0
Held None before g = IsReady before g
Held (Some a) before g = (before ≡ Some a) × (g ≡ [])

held_ready : (s : Before) (before : Option Lexeme) (g : List ℕ) → s ≡ None → Held s before g → IsReady before g
held_ready None before g e h = h
held_ready (Some a) before g e h = absurd (cc)

spaced_behind : (a : Lexeme) (c : ℕ) (x : List ℕ) → list_all is_blank (c ∷ x) ≡ true → IsReady (Some a) (c ∷ x)
spaced_behind a c x h = record { ends = blanks_gap (c ∷ x) h; low = blanks_low (c ∷ x) h; blank = (both_true (is_blank c) (list_all is_blank x) h).0 }

held_gap : (s : Before) (before : Option Lexeme) (g x : List ℕ) → list_all is_blank x ≡ true → Held s before g → Held (after_gap s x) before (g ++ x)
held_gap None before g [] b h = ready_blanks before g [] h b
held_gap None before g (c ∷ x) b h = ready_blanks before g (c ∷ x) h b
held_gap (Some a) before g [] b h = (h.0, ap (λ z. z ++ []) h.1)
held_gap (Some a) before g (c ∷ x) b h =
    subst (λ z. IsReady z (g ++ (c ∷ x))) (sym h.0) (subst (λ z. IsReady (Some a) (z ++ (c ∷ x))) (sym h.1) (spaced_behind a c x b))

held_ends : (s : Before) (before : Option Lexeme) (g : List ℕ) → Held s before g → is_gap false g ≡ true
held_ends None before g h = h.ends
held_ends (Some a) before g h = ap (is_gap false) h.1

held_low : (s : Before) (before : Option Lexeme) (g : List ℕ) → Held s before g → list_all is_low g ≡ true
held_low None before g h = h.low
held_low (Some a) before g h = ap (list_all is_low) h.1

blank_apart : (a : Lexeme) (g : List ℕ) (l : Lexeme) → begins_blank g ≡ true → is_apart a g l ≡ true
blank_apart a [] l h = absurd (cc)
blank_apart a (c ∷ g) l h = h

behind_stands : (before : Option Lexeme) (g : List ℕ) (l : Lexeme) → IsBehind before g → Stands before g l
behind_stands None g l h = tt
behind_stands (Some a) g l h = blank_apart a g l h

held_stands : (s : Before) (before : Option Lexeme) (g : List ℕ) (l : Lexeme) → fits s l ≡ true → Held s before g → Stands before g l
held_stands None before g l f h = behind_stands before g l h.blank
held_stands (Some a) before g l f h = subst (λ z. Stands z g l) (sym h.0) (subst (λ z. is_apart a z l ≡ true) (sym h.1) f)

goes_on : (s : Before) (before : Option Lexeme) (g : List ℕ) (ps qs : List Piece) → Well s ps → after s ps ≡ None → Held s before g
    → ((b : Option Lexeme) (h : List ℕ) → IsReady b h → WrittenBehind b h qs) → WrittenBehind before g (ps ++ qs)
goes_on s before g [] qs w e h k = k before g (held_ready s before g e h)
goes_on s before g (gap x ∷ ps) qs w e h k =
    written_gap before g x (ps ++ qs) (blanks_low x w.0) (goes_on (after_gap s x) before (g ++ x) ps qs w.1 e (held_gap s before g x w.0 h) k)
goes_on s before g (token l ∷ ps) qs w e h k =
    written_token before g l (ps ++ qs) (held_ends s before g h) (held_low s before g h) w.0 (held_stands s before g l w.1 h) (goes_on (Some l) (Some l) [] ps qs w.2 e (refl, refl) k)

-- lines

pub lines_sound : {ps : List Piece} → Sound (Is None) ps (Is None) → Lines ps
lines_sound {ps = ps} x = record { lines = λ before g qs r k. let a = x.sound None refl in goes_on None before g ps qs a.0 a.1 r k }

pub lines_none : Lines []
lines_none = record { lines = λ before g qs r k. k before g r }

pub lines_then : {ps qs : List Piece} → Lines ps → Lines qs → Lines (ps ++ qs)
lines_then {ps = ps} {qs = qs} x y =
    record { lines = λ before g rs r k. subst (WrittenBehind before g) (sym (append_assoc ps qs rs)) (x.lines before g (qs ++ rs) r (λ b h s. y.lines b h rs s k)) }

pub lines_margin : {ps : List Piece} (margin : List ℕ) → list_all is_blank margin ≡ true → Lines ps → Lines (gap margin ∷ ps)
lines_margin {ps = ps} margin blank x =
    record { lines = λ before g qs r k. written_gap before g margin (ps ++ qs) (blanks_low margin blank) (x.lines before (g ++ margin) qs (ready_blanks before g margin r blank) k) }

-- a line of a comment

abbrev pub in_line : ℕ → Bool
in_line c = is_low c && not (c == 10)

line_low : (cs : List ℕ) → list_all in_line cs ≡ true → list_all is_low cs ≡ true
line_low [] h = refl
line_low (c ∷ cs) h = let each = both_true (in_line c) (list_all in_line cs) h in and_both _ _ (both_true (is_low c) (not (c == 10)) each.0).0 (line_low cs each.1)

line_ends : (cs : List ℕ) → list_all in_line cs ≡ true → is_gap true (cs ++ 10 ∷ []) ≡ true
line_ends [] h = refl
line_ends (c ∷ cs) h =
    let each = both_true (in_line c) (list_all in_line cs) h in
    ap (λ b. is_gap b (cs ++ 10 ∷ [])) (both_true (is_low c) (not (c == 10)) each.0).1 ∙ line_ends cs each.1

pub lines_comment : (words text : List ℕ) → list_all is_low words ≡ true → ((rest : List ℕ) → is_gap true rest ≡ true → is_gap false (words ++ rest) ≡ true) → list_all in_line text ≡ true
    → Lines (gap words ∷ gap text ∷ gap (10 ∷ []) ∷ [])
lines_comment words text low begins inside =
    record {
      lines = λ before g qs r k.
          written_gap before g words (gap text ∷ gap (10 ∷ []) ∷ qs) low
          (written_gap before (g ++ words) text (gap (10 ∷ []) ∷ qs) (line_low text inside)
          (written_gap before ((g ++ words) ++ text) (10 ∷ []) qs refl
          (k before (((g ++ words) ++ text) ++ 10 ∷ [])
          (subst (IsReady before) (sym (append_assoc (g ++ words) text (10 ∷ []) ∙ append_assoc g words (text ++ 10 ∷ [])))
          (ready_more before g (words ++ (text ++ 10 ∷ [])) r (begins (text ++ 10 ∷ []) (line_ends text inside))
          (low_append words (text ++ 10 ∷ []) low (low_append text (10 ∷ []) (line_low text inside) refl)))))));
    }
