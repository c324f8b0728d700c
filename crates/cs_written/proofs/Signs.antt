-- A sign that is written is read as it is.
use Rattle.std.proofs.Common.{◌≡◌, ℕ, ◌+◌, ◌-◌, ◌<◌, ◌≤◌, ◌⊎◌, inl, inr, Bool, true, false, List, [], ◌∷◌, ◌++◌, refl, sym, ◌∙◌, ap, arith}
use Rattle.std.specs.Prelude.{not, ◌&&◌, ◌||◌, ◌==◌, nat_lt, is_some, slice_index, slice_index_or, Option, Some, None}
use Rattle.std.specs.Char.{is_ascii_alphabetic}
use Rattle.std.proofs.lemmas.Bool.{cases_lt}
use Rattle.std.proofs.lemmas.Bool.Decides.{nat_tests}
use Rattle.unicode_ident.specs.Ident.{is_xid_start}
use Rattle.unicode_ident.proofs.IdentLemmas.{is_xid_start-ascii}
use Rattle.cs_token.specs.declared.lexeme.Lexeme.TheVariants.{Sign}
use Rattle.cs_token.specs.Words.{is_blank, begins_comment, behind_gap, singles, doubles, single_at, double_at, of_one, of_two, sign_at, is_digit}
use Rattle.cs_token.specs.Tokens.{made, token_at}
use Rattle.cs_written.specs.Spelled.{sign_spelled}
use Rattle.cs_written.specs.Written.{first_of, clashes}
use Rattle.cs_written.proofs.Basics.{taken, skipped, both_true, not_true, or_false, all_below, below}

-- a character with which no other form of token begins, and no gap
abbrev pub plain : ℕ → Bool
plain c = nat_lt c 128 && (not (is_ascii_alphabetic c) && (not (c == 95) && (not (c == 64) && (not (is_digit c) && (not (c == 39) && (not (c == 34) && not (is_blank c)))))))

-- what such a character is not
pub record IsPlain (c : ℕ) : Type 0 where
  pub low : nat_lt c 128 ≡ true
  pub letter : is_ascii_alphabetic c ≡ false
  pub line : (c == 95) ≡ false
  pub at : (c == 64) ≡ false
  pub digit : is_digit c ≡ false
  pub quote : (c == 39) ≡ false
  pub double : (c == 34) ≡ false
  pub blank : is_blank c ≡ false

parts : (a b d e f g h i : Bool) → (a && (b && (d && (e && (f && (g && (h && i))))))) ≡ true
    → (a ≡ true) × (b ≡ true) × (d ≡ true) × (e ≡ true) × (f ≡ true) × (g ≡ true) × (h ≡ true) × (i ≡ true)
parts a b d e f g h i p =
    let p1 = both_true a (b && (d && (e && (f && (g && (h && i)))))) p in
    let p2 = both_true b (d && (e && (f && (g && (h && i))))) p1.1 in
    let p3 = both_true d (e && (f && (g && (h && i)))) p2.1 in
    let p4 = both_true e (f && (g && (h && i))) p3.1 in
    let p5 = both_true f (g && (h && i)) p4.1 in
    let p6 = both_true g (h && i) p5.1 in
    let p7 = both_true h i p6.1 in
    (p1.0, p2.0, p3.0, p4.0, p5.0, p6.0, p7.0, p7.1)

pub plain_parts : (c : ℕ) → plain c ≡ true → IsPlain c
plain_parts c p =
    let all = parts (nat_lt c 128) (not (is_ascii_alphabetic c)) (not (c == 95)) (not (c == 64)) (not (is_digit c)) (not (c == 39)) (not (c == 34)) (not (is_blank c)) p in
    record {
      low = all.0;
      letter = not_true (is_ascii_alphabetic c) all.1;
      line = not_true (c == 95) all.2;
      at = not_true (c == 64) all.3;
      digit = not_true (is_digit c) all.4;
      quote = not_true (c == 39) all.5;
      double = not_true (c == 34) all.6;
      blank = not_true (is_blank c) all.7;
    }

pub low_by : (c : ℕ) → nat_lt c 128 ≡ true → c < 128
low_by c h = grind (arith, nat_tests, h)

pub sign_head : (c : ℕ) (rest : List ℕ) → plain c ≡ true → token_at (c ∷ rest) ≡ made (λ k. Sign k) (sign_at (c ∷ rest))
sign_head c rest p =
    let is = plain_parts c p in
    let start : is_xid_start c ≡ false = is_xid_start-ascii c (low_by c is.low) ∙ is.letter in
    let word : (c == 95 || is_xid_start c) ≡ false = ap (λ x. x || is_xid_start c) is.line ∙ start in
    skipped (c == 95 || is_xid_start c) _ _ word
    ∙ (skipped (c == 64) _ _ is.at ∙ (skipped (is_digit c) _ _ is.digit ∙ (skipped (c == 39) _ _ is.quote ∙ skipped (c == 34) _ _ is.double)))

same_number : Option ℕ → ℕ → Bool
same_number None k = false
same_number (Some j) k = j == k

is_same : (o : Option ℕ) (k : ℕ) → same_number o k ≡ true → o ≡ Some k
unfolding same_number
is_same None k e = absurd (cc)
is_same (Some j) k e = let same : j ≡ k = grind (arith, nat_tests, e) in ap (λ n. Some n) same

is_none : (o : Option ℕ) → is_some o ≡ false → o ≡ None
is_none None e = refl
is_none (Some k) e = absurd (cc)

-- what computing shows of the signs of one character, and of two
single_fits : ℕ → Bool
single_fits k = let c = slice_index singles k in plain c && same_number (single_at c) k

double_fits : ℕ → Bool
double_fits k =
    let p = slice_index_or doubles k (0, 0) in
    plain p.0 && (same_number (double_at p.0 p.1) k && (not (p.0 == 45 && p.1 == 45) && not (p.0 == 47 && p.1 == 47)))

singles_fit : all_below single_fits 24 ≡ true
unfolding single_fits same_number
singles_fit = refl

doubles_fit : all_below double_fits 16 ≡ true
unfolding double_fits same_number
doubles_fit = refl

-- a sign of one character ends before a text, if it isn't read otherwise there
abbrev pub ends_before : ℕ → List ℕ → Bool
ends_before k [] = true
ends_before k (d ∷ rest) = not (nat_lt k 24 && clashes (first_of (sign_spelled k)) d)

under : (k : ℕ) → k < 24 → nat_lt k 24 ≡ true
under k h = grind (arith, nat_tests)

over : (k : ℕ) → 24 ≤ k → nat_lt k 24 ≡ false
over k h = grind (arith, nat_tests)

-- a sign with what stands behind it
pub record Stands (k : ℕ) (rest : List ℕ) : Type 0 where
  pub head : ℕ
  pub tail : List ℕ
  pub is : sign_spelled k ++ rest ≡ head ∷ tail
  pub fits : plain head ≡ true
  pub read : sign_at (head ∷ tail) ≡ Some (k, rest)
  pub apart : begins_comment (head ∷ tail) ≡ false

clash_parts : (c d : ℕ) → clashes c d ≡ false → (double_at c d ≡ None) × ((c == 45 && d == 45) ≡ false) × ((c == 47 && d == 47) ≡ false)
clash_parts c d e =
    let outer = or_false (is_some (double_at c d) || (c == 45 && d == 45)) (c == 47 && d == 47) e in
    let inner = or_false (is_some (double_at c d)) (c == 45 && d == 45) outer.0 in
    (is_none _ inner.0, inner.1, outer.1)

single_read : (c k d : ℕ) (rest : List ℕ) → single_at c ≡ Some k → clashes c d ≡ false → sign_at (c ∷ d ∷ rest) ≡ Some (k, d ∷ rest)
single_read c k d rest s e =
    let parts = clash_parts c d e in
    skipped (c == 45 && d == 45) _ _ parts.1
    ∙ (ap (λ o. of_two o rest (of_one (single_at c) (d ∷ rest))) parts.0 ∙ ap (λ o. of_one o (d ∷ rest)) s)

single_stands : (k : ℕ) (rest : List ℕ) → k < 24 → ends_before k rest ≡ true → Stands k rest
unfolding single_fits
single_stands k [] h e =
    let c = slice_index singles k in
    let fits = both_true (plain c) (same_number (single_at c) k) (below single_fits 24 k singles_fit h) in
    record {
      head = c;
      tail = [];
      is = ap (λ (s : List ℕ). s ++ []) (taken (nat_lt k 24) _ _ (under k h));
      fits = fits.0;
      read = ap (λ o. of_one o []) (is_same (single_at c) k fits.1);
      apart = refl;
    }
single_stands k (d ∷ rest) h e =
    let c = slice_index singles k in
    let fits = both_true (plain c) (same_number (single_at c) k) (below single_fits 24 k singles_fit h) in
    let form : sign_spelled k ≡ c ∷ [] = taken (nat_lt k 24) _ _ (under k h) in
    let free : clashes c d ≡ false =
    sym (ap (λ b. b && clashes c d) (under k h)) ∙ (sym (ap (λ x. nat_lt k 24 && clashes (first_of x) d) form) ∙ not_true (nat_lt k 24 && clashes (first_of (sign_spelled k)) d) e) in
    record {
      head = c;
      tail = d ∷ rest;
      is = ap (λ (s : List ℕ). s ++ d ∷ rest) form;
      fits = fits.0;
      read = single_read c k d rest (is_same (single_at c) k fits.1) free;
      apart = (clash_parts c d free).2;
    }

double_stands : (k : ℕ) (rest : List ℕ) → 24 ≤ k → k < 40 → Stands k rest
unfolding double_fits
double_stands k rest l h =
    let j = k - 24 in
    let p = slice_index_or doubles j (0, 0) in
    let small : j < 16 = omega arith in
    let minus = not (p.0 == 45 && p.1 == 45) in
    let comment = not (p.0 == 47 && p.1 == 47) in
    let a = both_true (plain p.0) (same_number (double_at p.0 p.1) j && (minus && comment)) (below double_fits 16 j doubles_fit small) in
    let b = both_true (same_number (double_at p.0 p.1) j) (minus && comment) a.1 in
    let d = both_true minus comment b.1 in
    let sum : 24 + j ≡ k = omega arith in
    record {
      head = p.0;
      tail = p.1 ∷ rest;
      is = ap (λ (s : List ℕ). s ++ rest) (skipped (nat_lt k 24) _ _ (over k l));
      fits = a.0;
      read =
          skipped (p.0 == 45 && p.1 == 45) _ _ (not_true (p.0 == 45 && p.1 == 45) d.0)
          ∙ (ap (λ o. of_two o rest (of_one (single_at p.0) (p.1 ∷ rest))) (is_same (double_at p.0 p.1) j b.0) ∙ ap (λ n. Some (n, rest)) sum);
      apart = not_true (p.0 == 47 && p.1 == 47) d.1;
    }

stands_by : (k : ℕ) (rest : List ℕ) → (k < 24) ⊎ (24 ≤ k) → k < 40 → ends_before k rest ≡ true → Stands k rest
stands_by k rest (inl l) h e = single_stands k rest l e
stands_by k rest (inr l) h e = double_stands k rest l h

pub sign_stands : (k : ℕ) (rest : List ℕ) → k < 40 → ends_before k rest ≡ true → Stands k rest
sign_stands k rest h e = stands_by k rest (cases_lt k 24) h e

pub gap_none : (c : ℕ) (rest : List ℕ) → is_blank c ≡ false → begins_comment (c ∷ rest) ≡ false → behind_gap false (c ∷ rest) ≡ c ∷ rest
gap_none c rest a b = skipped (is_blank c) _ _ a ∙ skipped (begins_comment (c ∷ rest)) _ _ b

pub sign_read : (k : ℕ) (rest : List ℕ) → k < 40 → ends_before k rest ≡ true → token_at (sign_spelled k ++ rest) ≡ Some (Sign k, rest)
sign_read k rest h e =
    let s = sign_stands k rest h e in
    ap token_at s.is ∙ (sign_head s.head s.tail s.fits ∙ ap (made (λ n. Sign n)) s.read)

pub sign_gapless : (k : ℕ) (rest : List ℕ) → k < 40 → ends_before k rest ≡ true → behind_gap false (sign_spelled k ++ rest) ≡ sign_spelled k ++ rest
sign_gapless k rest h e =
    let s = sign_stands k rest h e in
    ap (behind_gap false) s.is ∙ (gap_none s.head s.tail (plain_parts s.head s.fits).blank s.apart ∙ sym s.is)
