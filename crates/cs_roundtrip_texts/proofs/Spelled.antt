-- Tokens that can be written are written in characters, and ASCII is.
use Rattle.std.proofs.Common.{◌≡◌, ℕ, ◌<◌, Bool, true, false, List, [], ◌∷◌, ◌++◌, refl, ◌∙◌, ap, arith}
use Rattle.std.specs.Prelude.{IsUtf8, cond, ◌&&◌, slice_index_or}
use Rattle.std.specs.List.{list_all, flat_map}
use Rattle.std.specs.Fmt.{decimal}
use Rattle.std.specs.Str.{chars, all_scalars}
use lib.Utf8.{low_scalar}
use Rattle.std.proofs.Math.Utf8.{encodes}
use Rattle.std.proofs.lemmas.Fmt.{decimal_is_IsNumeral}
use Rattle.std.proofs.lemmas.List.Folds.{list_all-append}
use Rattle.std.proofs.lemmas.Str.{encode_ascii, scalars-chars}
use Rattle.std.proofs.lemmas.Bool.Decides.{nat_tests}
use Rattle.dc_base.specs.Identifiers.{keywords, is_keyword}
use Rattle.cs_token.specs.declared.lexeme.Suffix.{Suffix}
use Rattle.cs_token.specs.declared.lexeme.Suffix.TheVariants as suffix
use Rattle.cs_token.specs.declared.lexeme.Lexeme.{Lexeme}
use Rattle.cs_token.specs.declared.lexeme.Lexeme.TheVariants.{Name, Keyword, Number, Char, Literal, Sign}
use Rattle.cs_token.specs.Words.{is_digit}
use Rattle.cs_written.specs.Spelled.{unit_spelled, suffix_spelled, sign_spelled, spelled, IsSpellable}
use Rattle.cs_written.proofs.Basics.{both_true, all_below, below}
use Rattle.cs_written.proofs.Numerals.{all_digits}
use Rattle.cs_written.proofs.Ascii.{unit_low, units_low}
use Rattle.cs_roundtrip_texts.specs.Lines.{is_low}

pub and_both : (a b : Bool) → a ≡ true → b ≡ true → (a && b) ≡ true
and_both a b e f = ap (λ x. x && b) e ∙ f

pub under : (c : ℕ) → is_low c ≡ true → c < 128
under c h = grind (arith, nat_tests, h)

one_scalar : (c : ℕ) → c < 128 → all_scalars (c ∷ []) ≡ true
one_scalar c h = and_both _ true (low_scalar c (omega (arith, h))) refl

pub scalars_append : (cs ds : List ℕ) → all_scalars cs ≡ true → all_scalars ds ≡ true → all_scalars (cs ++ ds) ≡ true
scalars_append [] ds p q = q
scalars_append (c ∷ cs) ds p q = let each = both_true _ (all_scalars cs) p in and_both _ (all_scalars (cs ++ ds)) each.0 (scalars_append cs ds each.1 q)

pub low_scalars : (cs : List ℕ) → list_all is_low cs ≡ true → all_scalars cs ≡ true
low_scalars [] h = refl
low_scalars (c ∷ cs) h =
    let each = both_true (is_low c) (list_all is_low cs) h in
    scalars_append (c ∷ []) cs (one_scalar c (under c each.0)) (low_scalars cs each.1)

-- ASCII is its own UTF-8
pub low_bytes : (cs : List ℕ) → list_all is_low cs ≡ true → encodes cs ≡ cs
low_bytes [] h = refl
low_bytes (c ∷ cs) h =
    let each = both_true (is_low c) (list_all is_low cs) h in
    ap (λ x. x ++ encodes cs) (encode_ascii c (under c each.0)) ∙ ap (λ x. c ∷ x) (low_bytes cs each.1)

name_by : (b : Bool) (name : List ℕ) → IsUtf8 name → all_scalars (cond b (64 ∷ chars name) (chars name)) ≡ true
name_by true name u = scalars_append (64 ∷ []) (chars name) refl (scalars-chars name u)
name_by false name u = scalars-chars name u

-- what computing shows of keywords and signs
keyword_fits : ℕ → Bool
keyword_fits k = list_all is_low (slice_index_or keywords k [])

keywords_fit : all_below keyword_fits 77 ≡ true
unfolding keyword_fits
keywords_fit = refl

sign_fits : ℕ → Bool
sign_fits k = list_all is_low (sign_spelled k)

signs_fit : all_below sign_fits 40 ≡ true
unfolding sign_fits
signs_fit = refl

keyword_low : (k : ℕ) → k < 77 → list_all is_low (slice_index_or keywords k []) ≡ true
unfolding keyword_fits
keyword_low k h = below keyword_fits 77 k keywords_fit h

sign_low : (k : ℕ) → k < 40 → list_all is_low (sign_spelled k) ≡ true
unfolding sign_fits
sign_low k h = below sign_fits 40 k signs_fit h

digits_low : (ds : List ℕ) → list_all is_digit ds ≡ true → list_all is_low ds ≡ true
digits_low [] h = refl
digits_low (d ∷ ds) h =
    let each = both_true (is_digit d) (list_all is_digit ds) h in
    and_both _ _ (grind (arith, nat_tests, each.0)) (digits_low ds each.1)

suffix_low : (s : Suffix) → list_all is_low (suffix_spelled s) ≡ true
suffix_low suffix.Plain = refl
suffix_low suffix.Unsigned = refl
suffix_low suffix.Long = refl
suffix_low suffix.UnsignedLong = refl

in_quotes : (quote : ℕ) (cs : List ℕ) → is_low quote ≡ true → list_all is_low cs ≡ true → list_all is_low (quote ∷ (cs ++ quote ∷ [])) ≡ true
in_quotes quote cs q h = and_both _ _ q (list_all-append is_low cs (quote ∷ []) ∙ and_both _ _ h (and_both _ _ q refl))

pub spelled_scalars : (l : Lexeme) → IsSpellable l → all_scalars (spelled l) ≡ true
spelled_scalars (Name name) h = name_by (is_keyword name) name h.0
spelled_scalars (Keyword k) h = low_scalars (slice_index_or keywords k []) (keyword_low k h)
spelled_scalars (Number n s) h =
    let numeral = decimal_is_IsNumeral n h in
    low_scalars (decimal n ++ suffix_spelled s) (list_all-append is_low (decimal n) (suffix_spelled s) ∙ and_both _ _ (digits_low (decimal n) (all_digits (decimal n) numeral.0.1)) (suffix_low s))
spelled_scalars (Char unit) h = low_scalars (39 ∷ (unit_spelled 39 unit ++ 39 ∷ [])) (in_quotes 39 (unit_spelled 39 unit) refl (unit_low 39 unit (omega arith) h))
spelled_scalars (Literal units) h = low_scalars (34 ∷ (flat_map (unit_spelled 34) units ++ 34 ∷ [])) (in_quotes 34 (flat_map (unit_spelled 34) units) refl (units_low units h))
spelled_scalars (Sign k) h = low_scalars (sign_spelled k) (sign_low k h)
