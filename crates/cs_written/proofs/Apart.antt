-- Tokens that stand apart are read one by one.
use Rattle.std.proofs.Common.{◌≡◌, ℕ, ◌<◌, ◌⊎◌, inl, inr, Bool, true, false, cond, List, [], ◌∷◌, ◌++◌, map, refl, sym, ◌∙◌, ap, arith}
use Rattle.std.specs.Prelude.{not, ◌&&◌, ◌||◌, ◌==◌, nat_lt, is_some, length, Option, Some, None, IsTrue}
use Rattle.std.specs.List.{list_any, list_all, flat_map}
use Rattle.std.specs.Char.{is_ascii_alphabetic, is_ascii_alphanumeric}
use Rattle.std.specs.Fmt.{decimal}
use Rattle.std.specs.Int.{is_in_range}
use Rattle.std.specs.Str.{chars}
use Rattle.std.proofs.lemmas.Fmt.{decimal_is_IsNumeral}
use Rattle.std.proofs.lemmas.List.{append_assoc, append-nil}
use Rattle.std.proofs.lemmas.Bool.Decides.{nat_tests}
use Rattle.unicode_ident.specs.Ident.{is_xid_continue}
use Rattle.unicode_ident.proofs.IdentLemmas.{is_xid_start-ascii, is_xid_continue-ascii}
use Rattle.dc_base.specs.Identifiers.{is_keyword, is_legal}
use Rattle.cs_token.specs.declared.lexeme.Lexeme.{Lexeme}
use Rattle.cs_token.specs.declared.lexeme.Lexeme.TheVariants.{Name, Keyword, Number, Char, Literal, Sign}
use Rattle.cs_token.specs.declared.tokens.Token.{Token}
use Rattle.cs_token.specs.Words.{is_blank, begins_comment, behind_gap, is_digit, doubles, double_at}
use Rattle.cs_token.specs.Tokens.{token_at}
use Rattle.cs_token.specs.Cuts.{place_of, Cuts}
use Rattle.cs_written.specs.Spelled.{sign_spelled, unit_spelled, spelled, IsSpellable}
use Rattle.cs_written.specs.Written.{is_gap, is_word, first_of, clashes, signs_clash, needs_gap, is_apart, written, StandsApart, IsWritten}
use Rattle.cs_written.proofs.Basics.{taken, skipped, both_true, and_false, or_false, not_true, stops, position_none}
use Rattle.cs_written.proofs.Names.{begins, small_begins, keyword_first, name_read, keyword_read}
use Rattle.cs_written.proofs.Numerals.{goes_on, all_digits, number_read}
use Rattle.cs_written.proofs.Quotes.{quoted_char_read, quoted_text_read}
use Rattle.cs_written.proofs.Signs.{plain, plain_parts, low_by, ends_before, sign_stands, gap_none, sign_read, sign_gapless}

-- what stands directly behind a token doesn't go on with it
abbrev ends : Lexeme → List ℕ → Bool
ends (Name name) rest = stops is_xid_continue rest
ends (Keyword k) rest = stops is_xid_continue rest
ends (Number n s) rest = stops goes_on rest
ends (Char unit) rest = true
ends (Literal units) rest = true
ends (Sign k) rest = ends_before k rest

spelled_read : (l : Lexeme) (rest : List ℕ) → IsSpellable l → ends l rest ≡ true → token_at (spelled l ++ rest) ≡ Some (l, rest)
spelled_read (Name name) rest h e = name_read name rest h.0 h.1 e
spelled_read (Keyword k) rest h e = keyword_read k rest h e
spelled_read (Number n s) rest h e = number_read n s rest h e
spelled_read (Char unit) rest h e = ap (λ (t : List ℕ). token_at (39 ∷ t)) (append_assoc (unit_spelled 39 unit) (39 ∷ []) rest) ∙ quoted_char_read unit rest h
spelled_read (Literal units) rest h e = ap (λ (t : List ℕ). token_at (34 ∷ t)) (append_assoc (flat_map (unit_spelled 34) units) (34 ∷ []) rest) ∙ quoted_text_read units rest h
spelled_read (Sign k) rest h e = sign_read k rest h e

not_both : (b : Bool) → b ≡ true → b ≡ false → ⊥
not_both b h k = cc

eq_by : (a b : ℕ) (x : Bool) → (a == b) ≡ x → (a ≡ b → ⊥) → x ≡ false
eq_by a b true e differs = absurd (differs (grind (arith, nat_tests, e)))
eq_by a b false e differs = refl

-- a character that passes a test is none of those that don't
apart_by : (passes : ℕ → Bool) (c : ℕ) (xs : List ℕ) → passes c ≡ true → list_all (λ x. not (passes x)) xs ≡ true → list_any (λ x. x == c) xs ≡ false
apart_by passes c [] h k = refl
apart_by passes c (x ∷ xs) h k =
    let each = both_true (not (passes x)) (list_all (λ y. not (passes y)) xs) k in
    let other : (x == c) ≡ false = eq_by x c (x == c) refl (λ s. not_both (passes c) h (ap passes (sym s) ∙ not_true (passes x) each.0)) in
    ap (λ b. b || list_any (λ y. y == c) xs) other ∙ apart_by passes c xs h each.1

-- the second characters of signs, of two minus signs and of a comment; and blanks
abbrev seconds : List ℕ
seconds = 61 ∷ 60 ∷ 62 ∷ 38 ∷ 124 ∷ 58 ∷ 45 ∷ 47 ∷ []

abbrev blanks : List ℕ
blanks = 32 ∷ 9 ∷ 13 ∷ 10 ∷ []

-- no sign reads on over this character, and it is no blank
abbrev quiet : ℕ → Type 0
quiet c = (list_any (λ x. x == c) seconds ≡ false) × (list_any (λ x. x == c) blanks ≡ false)

-- a letter, or no ASCII at all
abbrev lettered : ℕ → Bool
lettered c = not (nat_lt c 128) || (c == 95 || is_ascii_alphabetic c)

lettered_by : (c : ℕ) (b : Bool) → nat_lt c 128 ≡ b → begins c ≡ true → (not b || (c == 95 || is_ascii_alphabetic c)) ≡ true
lettered_by c true e h =
    let low : c < 128 = grind (arith, nat_tests, e) in
    ap (λ x. c == 95 || x) (sym (is_xid_start-ascii c low)) ∙ h
lettered_by c false e h = refl

begins_quiet : (c : ℕ) → begins c ≡ true → quiet c
begins_quiet c h =
    let l = lettered_by c (nat_lt c 128) refl h in
    (apart_by lettered c seconds l refl, apart_by lettered c blanks l refl)

digit_quiet : (c : ℕ) → is_digit c ≡ true → quiet c
digit_quiet c h = (apart_by is_digit c seconds h refl, apart_by is_digit c blanks h refl)

flip : (a b : ℕ) → (a == b) ≡ false → (b == a) ≡ false
flip a b e = eq_by b a (b == a) refl (λ s. not_both (a == b) (grind (arith, nat_tests, s)) e)

-- what is no blank by the list is none by the test
no_blank : (c : ℕ) → list_any (λ x. x == c) blanks ≡ false → is_blank c ≡ false
no_blank c h =
    let a = or_false (32 == c) _ h in
    let b = or_false (9 == c) _ a.1 in
    let d = or_false (13 == c) _ b.1 in
    let e = or_false (10 == c) _ d.1 in
    ap (λ x. ((x || c == 9) || c == 13) || c == 10) (flip 32 c a.0) ∙ (ap (λ x. (x || c == 13) || c == 10) (flip 9 c b.0) ∙ (ap (λ x. x || c == 10) (flip 13 c d.0) ∙ flip 10 c e.0))

some_none : {A : Type 0} (o : Option A) → o ≡ None → is_some o ≡ false
some_none None e = refl
some_none (Some x) e = absurd (cc)

no_second : (s c : ℕ) (ps : List (ℕ × ℕ)) → list_all (λ p. list_any (λ x. x == p.1) seconds) ps ≡ true → list_any (λ x. x == c) seconds ≡ false
    → list_any (λ p. p.0 == s && p.1 == c) ps ≡ false
no_second s c [] k h = refl
no_second s c (p ∷ ps) k h =
    let each = both_true (list_any (λ x. x == p.1) seconds) (list_all (λ q. list_any (λ x. x == q.1) seconds) ps) k in
    let other : (p.1 == c) ≡ false = eq_by p.1 c (p.1 == c) refl (λ e. not_both (list_any (λ x. x == p.1) seconds) each.0 (ap (λ y. list_any (λ x. x == y) seconds) e ∙ h)) in
    ap (λ b. b || list_any (λ q. q.0 == s && q.1 == c) ps) (and_false (p.0 == s) (p.1 == c) other) ∙ no_second s c ps each.1 h

-- the last two of them
seventh : (c : ℕ) → list_any (λ x. x == c) seconds ≡ false → (45 == c) ≡ false
seventh c h =
    let a = or_false (61 == c) _ h in
    let b = or_false (60 == c) _ a.1 in
    let d = or_false (62 == c) _ b.1 in
    let e = or_false (38 == c) _ d.1 in
    let f = or_false (124 == c) _ e.1 in
    let g = or_false (58 == c) _ f.1 in
    (or_false (45 == c) _ g.1).0

eighth : (c : ℕ) → list_any (λ x. x == c) seconds ≡ false → (47 == c) ≡ false
eighth c h =
    let a = or_false (61 == c) _ h in
    let b = or_false (60 == c) _ a.1 in
    let d = or_false (62 == c) _ b.1 in
    let e = or_false (38 == c) _ d.1 in
    let f = or_false (124 == c) _ e.1 in
    let g = or_false (58 == c) _ f.1 in
    let i = or_false (45 == c) _ g.1 in
    (or_false (47 == c) _ i.1).0

no_clash : (s c : ℕ) → list_any (λ x. x == c) seconds ≡ false → clashes s c ≡ false
no_clash s c h =
    let none : double_at s c ≡ None = position_none (λ p. p.0 == s && p.1 == c) doubles (no_second s c doubles refl h) in
    let minus : (c == 45) ≡ false = flip 45 c (seventh c h) in
    let slash : (c == 47) ≡ false = flip 47 c (eighth c h) in
    ap (λ x. (x || (s == 45 && c == 45)) || (s == 47 && c == 47)) (some_none (double_at s c) none)
    ∙ (ap (λ x. x || (s == 47 && c == 47)) (and_false (s == 45) (c == 45) minus) ∙ and_false (s == 47) (c == 47) slash)

sign_ends : (k c : ℕ) (rest : List ℕ) → list_any (λ x. x == c) seconds ≡ false → ends_before k (c ∷ rest) ≡ true
sign_ends k c rest h = ap not (and_false (nat_lt k 24) (clashes (first_of (sign_spelled k)) c) (no_clash (first_of (sign_spelled k)) c h))

-- a blank ends each token
blank_by : (c : ℕ) → is_blank c ≡ true → (c ≡ 32) ⊎ ((c ≡ 9) ⊎ ((c ≡ 13) ⊎ (c ≡ 10)))
blank_by c h = grind (arith, nat_tests, h)

not_part : (c : ℕ) → c < 128 → (is_ascii_alphanumeric c || c == 95) ≡ false → is_xid_continue c ≡ false
not_part c l h = is_xid_continue-ascii c l ∙ h

ends_at : (l : Lexeme) (c : ℕ) (rest : List ℕ) → is_xid_continue c ≡ false → goes_on c ≡ false → list_any (λ x. x == c) seconds ≡ false → ends l (c ∷ rest) ≡ true
ends_at (Name name) c rest a b d = ap not a
ends_at (Keyword k) c rest a b d = ap not a
ends_at (Number n s) c rest a b d = ap not b
ends_at (Char unit) c rest a b d = refl
ends_at (Literal units) c rest a b d = refl
ends_at (Sign k) c rest a b d = sign_ends k c rest d

ends_by : (l : Lexeme) (c : ℕ) (rest : List ℕ) → (c ≡ 32) ⊎ ((c ≡ 9) ⊎ ((c ≡ 13) ⊎ (c ≡ 10))) → ends l (c ∷ rest) ≡ true
ends_by l c rest (inl e) = ap (λ (x : ℕ). ends l (x ∷ rest)) e ∙ ends_at l 32 rest (not_part 32 (omega arith) refl) refl refl
ends_by l c rest (inr (inl e)) = ap (λ (x : ℕ). ends l (x ∷ rest)) e ∙ ends_at l 9 rest (not_part 9 (omega arith) refl) refl refl
ends_by l c rest (inr (inr (inl e))) = ap (λ (x : ℕ). ends l (x ∷ rest)) e ∙ ends_at l 13 rest (not_part 13 (omega arith) refl) refl refl
ends_by l c rest (inr (inr (inr e))) = ap (λ (x : ℕ). ends l (x ∷ rest)) e ∙ ends_at l 10 rest (not_part 10 (omega arith) refl) refl refl

ends_blank : (l : Lexeme) (c : ℕ) (rest : List ℕ) → is_blank c ≡ true → ends l (c ∷ rest) ≡ true
ends_blank l c rest h = ends_by l c rest (blank_by c h)

ends_nil : (l : Lexeme) → ends l [] ≡ true
ends_nil (Name name) = refl
ends_nil (Keyword k) = refl
ends_nil (Number n s) = refl
ends_nil (Char unit) = refl
ends_nil (Literal units) = refl
ends_nil (Sign k) = refl

-- how a token begins, and that it begins no comment and no gap
record Opens (l : Lexeme) : Type 0 where
  first : ℕ
  tail : List ℕ
  is : spelled l ≡ first ∷ tail
  quiet_first : quiet first

open_by : (c : ℕ) (t s : List ℕ) (l : Lexeme) → spelled l ≡ s → s ≡ c ∷ t → quiet c → Opens l
open_by c t s l e f q = record { first = c; tail = t; is = e ∙ f; quiet_first = q }

name_opens : (name : List ℕ) (cs : List ℕ) → chars name ≡ cs → IsTrue (is_legal cs) → (b : Bool) → is_keyword name ≡ b → Opens (Name name)
name_opens name [] e h b k = absurd (not_both false h refl)
name_opens name (c ∷ cs) e h true k = open_by 64 (chars name) (64 ∷ chars name) (Name name) (taken (is_keyword name) _ _ k) refl (refl, refl)
name_opens name (c ∷ cs) e h false k =
    open_by c cs (chars name) (Name name) (skipped (is_keyword name) _ _ k) e (begins_quiet c (both_true (begins c) (list_all is_xid_continue cs) h).0)

keyword_opens : (k : ℕ) → k < 77 → Opens (Keyword k)
keyword_opens k h =
    let f = keyword_first k h in
    open_by f.0 f.1 (f.0 ∷ f.1) (Keyword k) f.2 refl (begins_quiet f.0 (small_begins f.0 f.3))

number_by : (ds tail : List ℕ) (l : Lexeme) → spelled l ≡ ds ++ tail → 0 < length ds → list_all is_digit ds ≡ true → Opens l
number_by [] tail l e h d = absurd (omega arith)
number_by (c ∷ ds) tail l e h d = open_by c (ds ++ tail) (c ∷ (ds ++ tail)) l e refl (digit_quiet c (both_true (is_digit c) (list_all is_digit ds) d).0)

abbrev is_sign : Lexeme → Bool
is_sign (Sign k) = true
is_sign _ = false

-- each token but a sign
opens : (l : Lexeme) → IsSpellable l → is_sign l ≡ false → Opens l
opens (Name name) h n = name_opens name (chars name) refl h.1 (is_keyword name) refl
opens (Keyword k) h n = keyword_opens k h
opens (Number m s) h n = let d = decimal_is_IsNumeral m h in number_by (decimal m) _ (Number m s) refl d.0.0 (all_digits (decimal m) d.0.1)
opens (Char unit) h n = open_by 39 _ _ (Char unit) refl refl (refl, refl)
opens (Literal units) h n = open_by 34 _ _ (Literal units) refl refl (refl, refl)
opens (Sign k) h n = absurd (not_both true refl n)

no_comment : (c : ℕ) (t : List ℕ) → (c == 47) ≡ false → begins_comment (c ∷ t) ≡ false
no_comment c [] e = refl
no_comment c (d ∷ t) e = ap (λ b. b && d == 47) e

gapless_by : (l : Lexeme) (rest : List ℕ) → Opens l → behind_gap false (spelled l ++ rest) ≡ spelled l ++ rest
gapless_by l rest o =
    let form : spelled l ++ rest ≡ o.first ∷ (o.tail ++ rest) = ap (λ (s : List ℕ). s ++ rest) o.is in
    let slash : (o.first == 47) ≡ false = flip 47 o.first (eighth o.first o.quiet_first.0) in
    ap (behind_gap false) form ∙ (gap_none o.first (o.tail ++ rest) (no_blank o.first o.quiet_first.1) (no_comment o.first (o.tail ++ rest) slash) ∙ sym form)

gapless : (l : Lexeme) (rest : List ℕ) → IsSpellable l → ends l rest ≡ true → behind_gap false (spelled l ++ rest) ≡ spelled l ++ rest
gapless (Sign k) rest h e = sign_gapless k rest h e
gapless (Name name) rest h e = gapless_by (Name name) rest (opens (Name name) h refl)
gapless (Keyword k) rest h e = gapless_by (Keyword k) rest (opens (Keyword k) h refl)
gapless (Number n s) rest h e = gapless_by (Number n s) rest (opens (Number n s) h refl)
gapless (Char unit) rest h e = gapless_by (Char unit) rest (opens (Char unit) h refl)
gapless (Literal units) rest h e = gapless_by (Literal units) rest (opens (Literal units) h refl)

-- how a sign begins
sign_first : (k : ℕ) → k < 40 → (c : ℕ) × (tail : List ℕ) × (sign_spelled k ≡ c ∷ tail) × (plain c ≡ true)
sign_first k h =
    let s = sign_stands k [] h refl in
    (s.head, s.tail, sym (append-nil (sign_spelled k)) ∙ s.is, s.fits)

plain_part : (c : ℕ) → plain c ≡ true → is_xid_continue c ≡ false
plain_part c p =
    let is = plain_parts c p in
    let letters = or_false (is_in_range 65 90 c) (is_in_range 97 122 c) is.letter in
    is_xid_continue-ascii c (low_by c is.low)
    ∙ (ap (λ x. ((x || is_in_range 65 90 c) || is_in_range 97 122 c) || c == 95) is.digit
    ∙ (ap (λ x. (x || is_in_range 97 122 c) || c == 95) letters.0 ∙ (ap (λ x. x || c == 95) letters.1 ∙ is.line)))

plain_on : (c : ℕ) → plain c ≡ true → goes_on c ≡ false
plain_on c p =
    let is = plain_parts c p in
    let u : (c == 85) ≡ false = eq_by c 85 (c == 85) refl (λ s. not_both true refl (sym (ap is_ascii_alphabetic s) ∙ is.letter)) in
    let l : (c == 76) ≡ false = eq_by c 76 (c == 76) refl (λ s. not_both true refl (sym (ap is_ascii_alphabetic s) ∙ is.letter)) in
    ap (λ x. (x || c == 85) || c == 76) is.digit ∙ (ap (λ x. x || c == 76) u ∙ l)

word_ends : (l : Lexeme) (c : ℕ) (rest : List ℕ) → is_word l ≡ true → is_xid_continue c ≡ false → goes_on c ≡ false → ends l (c ∷ rest) ≡ true
word_ends (Name name) c rest w a b = ap not a
word_ends (Keyword k) c rest w a b = ap not a
word_ends (Number n s) c rest w a b = ap not b
word_ends (Char unit) c rest w a b = refl
word_ends (Literal units) c rest w a b = refl
word_ends (Sign k) c rest w a b = absurd (not_both false w refl)

-- a sign directly behind a token that is no sign
sign_ends_word : (l : Lexeme) (k : ℕ) (rest : List ℕ) → k < 40 → is_word l ≡ true → ends l (sign_spelled k ++ rest) ≡ true
sign_ends_word l k rest h w =
    let s = sign_first k h in
    ap (λ (t : List ℕ). ends l (t ++ rest)) s.2 ∙ word_ends l s.0 (s.1 ++ rest) w (plain_part s.0 s.3) (plain_on s.0 s.3)

quote_ends_word : (l : Lexeme) (c : ℕ) (rest : List ℕ) → is_word l ≡ true → (c ≡ 39) ⊎ (c ≡ 34) → ends l (c ∷ rest) ≡ true
quote_ends_word l c rest w (inl e) = ap (λ (x : ℕ). ends l (x ∷ rest)) e ∙ word_ends l 39 rest w (not_part 39 (omega arith) refl) refl
quote_ends_word l c rest w (inr e) = ap (λ (x : ℕ). ends l (x ∷ rest)) e ∙ word_ends l 34 rest w (not_part 34 (omega arith) refl) refl

two_words : (a c : Bool) → a ≡ true → (a && true || c) ≡ false → ⊥
two_words true c e n = not_both true refl n
two_words false c e n = not_both false e refl

-- of two words the second would need a gap
word_before : (a b : Lexeme) (rest : List ℕ) → is_word a ≡ true → IsSpellable b → needs_gap a b ≡ false → ends a (spelled b ++ rest) ≡ true
word_before a (Sign k) rest w h n = sign_ends_word a k rest h w
word_before a (Char unit) rest w h n = quote_ends_word a 39 _ w (inl refl)
word_before a (Literal units) rest w h n = quote_ends_word a 34 _ w (inr refl)
word_before a (Name name) rest w h n = absurd (two_words (is_word a) (signs_clash a (Name name)) w n)
word_before a (Keyword k) rest w h n = absurd (two_words (is_word a) (signs_clash a (Keyword k)) w n)
word_before a (Number m s) rest w h n = absurd (two_words (is_word a) (signs_clash a (Number m s)) w n)

sign_before : (j k : ℕ) (rest : List ℕ) → k < 40 → (nat_lt j 24 && clashes (first_of (sign_spelled j)) (first_of (sign_spelled k))) ≡ false → ends_before j (sign_spelled k ++ rest) ≡ true
sign_before j k rest h n =
    let s = sign_first k h in
    ap (λ (t : List ℕ). ends_before j (t ++ rest)) s.2
    ∙ ap not (sym (ap (λ (t : List ℕ). nat_lt j 24 && clashes (first_of (sign_spelled j)) (first_of t)) s.2) ∙ n)

sign_before_other : (j : ℕ) (b : Lexeme) (rest : List ℕ) → Opens b → ends_before j (spelled b ++ rest) ≡ true
sign_before_other j b rest o = ap (λ (t : List ℕ). ends_before j (t ++ rest)) o.is ∙ sign_ends j o.first (o.tail ++ rest) o.quiet_first.0

-- what no gap is needed before ends a token
ends_next : (a b : Lexeme) (rest : List ℕ) → IsSpellable b → needs_gap a b ≡ false → ends a (spelled b ++ rest) ≡ true
ends_next (Char unit) b rest h n = refl
ends_next (Literal units) b rest h n = refl
ends_next (Sign j) (Sign k) rest h n = sign_before j k rest h n
ends_next (Sign j) (Name name) rest h n = sign_before_other j (Name name) rest (opens (Name name) h refl)
ends_next (Sign j) (Keyword k) rest h n = sign_before_other j (Keyword k) rest (opens (Keyword k) h refl)
ends_next (Sign j) (Number m s) rest h n = sign_before_other j (Number m s) rest (opens (Number m s) h refl)
ends_next (Sign j) (Char unit) rest h n = sign_before_other j (Char unit) rest (opens (Char unit) h refl)
ends_next (Sign j) (Literal units) rest h n = sign_before_other j (Literal units) rest (opens (Literal units) h refl)
ends_next (Name name) b rest h n = word_before (Name name) b rest refl h n
ends_next (Keyword k) b rest h n = word_before (Keyword k) b rest refl h n
ends_next (Number m s) b rest h n = word_before (Number m s) b rest refl h n

ends_piece : (a : Lexeme) (gap : List ℕ) (b : Lexeme) (rest : List ℕ) → IsTrue (is_apart a gap b) → IsSpellable b → ends a (gap ++ (spelled b ++ rest)) ≡ true
ends_piece a [] b rest s h = ends_next a b rest h (not_true (needs_gap a b) s)
ends_piece a (c ∷ gap) b rest s h = ends_blank a c (gap ++ (spelled b ++ rest)) s

ends_written : (a : Lexeme) (ps : List (List ℕ × Lexeme)) (last : List ℕ) → StandsApart a ps last → IsWritten ps last → ends a (written ps last) ≡ true
ends_written a [] [] s w = ends_nil a
ends_written a [] (c ∷ last) s w = ends_blank a c last s
ends_written a (p ∷ ps) last s w = ends_piece a p.0 p.1 (written ps last) s w.1

still_comment : (c : ℕ) (gap rest : List ℕ) → begins_comment (c ∷ gap) ≡ true → begins_comment (c ∷ (gap ++ rest)) ≡ true
still_comment c [] rest h = absurd (not_both false h refl)
still_comment c (d ∷ gap) rest h = h

gap_by : (c : ℕ) (gap rest : List ℕ) (b : Bool) → is_blank c ≡ b → cond b (is_gap false gap) (begins_comment (c ∷ gap) && is_gap true gap) ≡ true
    → (is_gap false gap ≡ true → behind_gap false (gap ++ rest) ≡ behind_gap false rest) → (is_gap true gap ≡ true → behind_gap true (gap ++ rest) ≡ behind_gap false rest)
    → behind_gap false (c ∷ (gap ++ rest)) ≡ behind_gap false rest
gap_by c gap rest true e h blank comment = taken (is_blank c) _ _ e ∙ blank h
gap_by c gap rest false e h blank comment =
    let each = both_true (begins_comment (c ∷ gap)) (is_gap true gap) h in
    skipped (is_blank c) _ _ e ∙ (taken (begins_comment (c ∷ (gap ++ rest))) _ _ (still_comment c gap rest each.0) ∙ comment each.1)

gap_passed : (inside : Bool) (gap rest : List ℕ) → is_gap inside gap ≡ true → behind_gap inside (gap ++ rest) ≡ behind_gap false rest
gap_passed true [] rest h = absurd (not_both false h refl)
gap_passed false [] rest h = refl
gap_passed true (c ∷ gap) rest h = gap_passed (not (c == 10)) gap rest h
gap_passed false (c ∷ gap) rest h = gap_by c gap rest (is_blank c) refl h (λ b. gap_passed false gap rest b) (λ b. gap_passed true gap rest b)

-- what is written well is read as just these tokens, from here on
pub read_from : (whole : List ℕ) (ps : List (List ℕ × Lexeme)) (last : List ℕ) → IsWritten ps last
    → (ts : List Token) × Cuts whole (written ps last) ts [] × (map (λ t. t.lexeme) ts ≡ map (λ p. p.1) ps)
read_from whole [] last w = ([], sym (ap (behind_gap false) (sym (append-nil last)) ∙ gap_passed false last [] w), refl)
read_from whole (p ∷ ps) last w =
    let more = written ps last in
    let ended = ends_written p.1 ps last w.2 w.3 in
    let here : behind_gap false (written (p ∷ ps) last) ≡ spelled p.1 ++ more = gap_passed false p.0 (spelled p.1 ++ more) w.0 ∙ gapless p.1 more w.1 ended in
    let stands : token_at (behind_gap false (written (p ∷ ps) last)) ≡ Some (p.1, more) = ap token_at here ∙ spelled_read p.1 more w.1 ended in
    let at = place_of whole (behind_gap false (written (p ∷ ps) last)) in
    let others = read_from whole ps last w.3 in
    (record { lexeme = p.1; line = at.0; column = at.1 } ∷ others.0, (more, stands, refl, others.1), ap (λ ls. p.1 ∷ ls) others.2)
