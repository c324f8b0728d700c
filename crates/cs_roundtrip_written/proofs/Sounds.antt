-- Pieces that are put together.
use Rattle.std.proofs.Common.{◌≡◌, ℕ, ◌<◌, Bool, true, false, not, List, [], ◌∷◌, ◌++◌, Some, None, refl, sym, ap, subst}
use Rattle.std.specs.List.{list_all}
use Rattle.cs_token.specs.Words.{is_blank}
use Rattle.cs_token.specs.declared.lexeme.Lexeme.{Lexeme}
use Rattle.cs_token.specs.declared.lexeme.Lexeme.TheVariants.{Name, Keyword, Number, Char, Literal, Sign}
use Rattle.cs_written.specs.Spelled.{IsSpellable}
use Rattle.cs_written.specs.Written.{signs_clash}
use Rattle.cs_layout.specs.Pieces.{Piece, gap, token}
use Rattle.cs_layout.specs.Words.{fixed}
use Rattle.cs_layout.specs.Layout.{line, indent}
use Rattle.cs_roundtrip_written.specs.Sound.{Before, fits, after_gap, after, Well, Sound, Is, Free, Closed, is_sign, Takes}

after-append : (s : Before) (ps qs : List Piece) → after s (ps ++ qs) ≡ after (after s ps) qs
after-append s [] qs = refl
after-append s (gap g ∷ ps) qs = after-append (after_gap s g) ps qs
after-append s (token l ∷ ps) qs = after-append (Some l) ps qs

well-append : (s : Before) (ps qs : List Piece) → Well s ps → Well (after s ps) qs → Well s (ps ++ qs)
well-append s [] qs h k = k
well-append s (gap g ∷ ps) qs h k = (h.0, well-append (after_gap s g) ps qs h.1 k)
well-append s (token l ∷ ps) qs h k = (h.0, h.1, well-append (Some l) ps qs h.2 k)

-- one behind the other
pub sound_then : {Pre Mid Post : Before → Type 0} {ps qs : List Piece} → Sound Pre ps Mid → Sound Mid qs Post → Sound Pre (ps ++ qs) Post
sound_then {Post = Post} {ps = ps} {qs = qs} x y =
    record {
      sound = λ s p.
          let a = x.sound s p in
          let b = y.sound (after s ps) a.1 in
          (well-append s ps qs a.0 b.0, subst Post (sym (after-append s ps qs)) b.1);
    }

pub sound_none : {Pre Post : Before → Type 0} → ((s : Before) → Pre s → Post s) → Sound Pre [] Post
sound_none f = record { sound = λ s p. (tt, f s p) }

pub sound_where : {Pre More Post : Before → Type 0} {ps : List Piece} → ((s : Before) → More s → Pre s) → Sound Pre ps Post → Sound More ps Post
sound_where f x = record { sound = λ s p. x.sound s (f s p) }

pub sound_so : {Pre Post Less : Before → Type 0} {ps : List Piece} → Sound Pre ps Post → ((s : Before) → Post s → Less s) → Sound Pre ps Less
sound_so {ps = ps} x f = record { sound = λ s p. let a = x.sound s p in (a.0, f (after s ps) a.1) }

-- a token
pub puts : {Pre Post : Before → Type 0} {ps : List Piece} (l : Lexeme) → IsSpellable l → ((s : Before) → Pre s → fits s l ≡ true) → Sound (Is (Some l)) ps Post → Sound Pre (token l ∷ ps) Post
puts l spells may x = record { sound = λ s p. let a = x.sound (Some l) refl in ((spells, may s p, a.0), a.1) }

-- a gap that isn't empty, and one that may be where a gap stands before
pub spaced : {Pre Post : Before → Type 0} {ps : List Piece} (c : ℕ) (g : List ℕ) → list_all is_blank (c ∷ g) ≡ true → Sound (Is None) ps Post → Sound Pre (gap (c ∷ g) ∷ ps) Post
spaced c g blank x = record { sound = λ s p. let a = x.sound None refl in ((blank, a.0), a.1) }

still : (s : Before) (g : List ℕ) → s ≡ None → after_gap s g ≡ None
still s [] e = e
still s (c ∷ g) e = refl

pub indented : {Post : Before → Type 0} {ps : List Piece} (margin : List ℕ) → list_all is_blank margin ≡ true → Sound (Is None) ps Post → Sound (Is None) (gap margin ∷ ps) Post
indented margin blank x = record { sound = λ s p. let a = x.sound (after_gap s margin) (still s margin p) in ((blank, a.0), a.1) }

-- what may stand behind some tokens

word_free : (l : Lexeme) (k : ℕ) → is_sign l ≡ false → fits (Some l) (Sign k) ≡ true
word_free (Name t) k h = refl
word_free (Keyword n) k h = refl
word_free (Number n x) k h = refl
word_free (Char u) k h = refl
word_free (Literal us) k h = refl
word_free (Sign j) k h = absurd (cc)

pub closed_word : (l : Lexeme) → is_sign l ≡ false → Closed (Some l)
closed_word l h k = word_free l k h

pub free_sign : (j : ℕ) → ((k : ℕ) → signs_clash (Sign j) (Sign k) ≡ false) → Free (Some (Sign j))
free_sign j h (Name t) = refl
free_sign j h (Keyword n) = refl
free_sign j h (Number n x) = refl
free_sign j h (Char u) = refl
free_sign j h (Literal us) = refl
free_sign j h (Sign k) = ap not (h k)

pub free_none : Free None
free_none l = refl

pub closed_free : (s : Before) → Free s → Closed s
closed_free s f k = f (Sign k)

pub takes_free : (m : Bool) (s : Before) → Free s → Takes m s
takes_free m s f = record { words = λ l h. f l; paren = f (Sign 2); bang = f (Sign 22); tilde = f (Sign 23); signed = λ e. f (Sign 18) }

pub takes_less : (m : Bool) (s : Before) → Takes m s → Takes false s
takes_less m s t = record { words = t.words; paren = t.paren; bang = t.bang; tilde = t.tilde; signed = λ e. absurd (cc) }

-- what stands just there
pub free_is : (t s : Before) → Free t → s ≡ t → Free s
free_is t s f e = subst Free (sym e) f

pub closed_is : (t s : Before) → Closed t → s ≡ t → Closed s
closed_is t s f e = subst Closed (sym e) f

pub is_none : (s : Before) → s ≡ None → Free s
is_none s e = free_is None s free_none e

-- signs behind which anything may stand
pub free_open : Free (Some (Sign 2))
free_open = free_sign 2 (λ k. refl)

pub free_close : Free (Some (Sign 3))
free_close = free_sign 3 (λ k. refl)

pub free_index : Free (Some (Sign 4))
free_index = free_sign 4 (λ k. refl)

pub free_unindex : Free (Some (Sign 5))
free_unindex = free_sign 5 (λ k. refl)

pub free_dot : Free (Some (Sign 9))
free_dot = free_sign 9 (λ k. refl)

pub free_brace : Free (Some (Sign 1))
free_brace = free_sign 1 (λ k. refl)

pub free_colons : Free (Some (Sign 33))
free_colons = free_sign 33 (λ k. refl)

-- a sign with what stands behind it
pub puts_sign : {Pre Post : Before → Type 0} {ps : List Piece} (k : ℕ) → k < 40 → ((s : Before) → Pre s → fits s (Sign k) ≡ true) → Sound (Is (Some (Sign k))) ps Post → Sound Pre (token (Sign k) ∷ ps) Post
puts_sign k low may x = puts (Sign k) low may x

pub puts_keyword : {Pre Post : Before → Type 0} {ps : List Piece} (k : ℕ) → k < 77 → ((s : Before) → Pre s → fits s (Keyword k) ≡ true) → Sound (Is (Some (Keyword k))) ps Post → Sound Pre (token (Keyword k) ∷ ps) Post
puts_keyword k low may x = puts (Keyword k) low may x

pub takes_word : (m : Bool) (k : ℕ) (s : Before) → Takes m s → fits s (Keyword k) ≡ true
takes_word m k s t = t.words (Keyword k) refl

-- lines
pub sound_line : {Mid : Before → Type 0} {ps : List Piece} (margin : List ℕ) → list_all is_blank margin ≡ true → Sound (Is None) ps Mid → Sound (Is None) (line margin ps) (Is None)
unfolding indent fixed
sound_line margin blank x = indented margin blank (sound_then x (spaced 10 [] refl (sound_none (λ s e. e))))
