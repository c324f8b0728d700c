-- What is written in quotes and of numbers is ASCII, which UTF-8 leaves as it is.
use Rattle.std.proofs.Common.{◌≡◌, ℕ, suc, ◌<◌, ◌^◌, ◌/◌, ◌%◌, Bool, true, false, List, [], ◌∷◌, ◌++◌, refl, ◌∙◌, ap, arith}
use Rattle.std.specs.Prelude.{All, IsUtf8, cond, ◌&&◌, ◌||◌, ◌==◌, nat_lt, nat_le}
use Rattle.std.specs.List.{list_all, flat_map}
use Rattle.std.specs.Char.{digit_char}
use Rattle.std.specs.Fmt.{decimal}
use Rattle.std.specs.Str.{chars}
use Rattle.std.proofs.Math.Utf8.{encodes}
use Rattle.std.proofs.lemmas.Fmt.{decimal_is_IsNumeral}
use Rattle.std.proofs.lemmas.List.Folds.{list_all-append}
use Rattle.std.proofs.lemmas.Str.{encode_ascii, encodes-chars}
use Rattle.std.proofs.lemmas.Bool.Decides.{nat_tests}
use Rattle.dc_base.specs.Identifiers.{is_keyword}
use Rattle.cs_token.specs.declared.lexeme.Suffix.{Suffix}
use Rattle.cs_token.specs.declared.lexeme.Suffix.TheVariants as suffix
use Rattle.cs_token.specs.Words.{is_digit}
use Rattle.cs_written.specs.Spelled.{name_spelled, hex_spelled, unit_spelled, suffix_spelled}
use Rattle.cs_written.proofs.Basics.{split, both_true}
use Rattle.cs_written.proofs.Numerals.{all_digits}

abbrev is_low : ℕ → Bool
is_low c = nat_lt c 128

low : (c : ℕ) → c < 128 → is_low c ≡ true
low c h = grind (arith, nat_tests)

as_it_is : (cs : List ℕ) → list_all is_low cs ≡ true → encodes cs ≡ cs
as_it_is [] h = refl
as_it_is (c ∷ cs) h =
    let each = both_true (is_low c) (list_all is_low cs) h in
    ap (λ x. x ++ encodes cs) (encode_ascii c (grind (arith, nat_tests, each.0))) ∙ ap (λ x. c ∷ x) (as_it_is cs each.1)

and_both : (a b : Bool) → a ≡ true → b ≡ true → (a && b) ≡ true
and_both a b e f = ap (λ x. x && b) e ∙ f

digit_low : (d : ℕ) → d < 16 → is_low (digit_char d) ≡ true
digit_low d h = grind (arith, nat_tests)

hex_low : (unit : ℕ) → unit < 2 ^ 16 → list_all is_low (hex_spelled unit) ≡ true
hex_low unit h =
    and_both _ _ (digit_low (unit / 16 / 16 / 16) (omega arith))
    (and_both _ _ (digit_low (unit / 16 / 16 % 16) (omega arith))
    (and_both _ _ (digit_low (unit / 16 % 16) (omega arith)) (and_both _ _ (digit_low (unit % 16) (omega arith)) refl)))

quote_low : (quote unit : ℕ) (b : Bool) → quote < 128 → (unit == 92) ≡ b → (b || unit == quote) ≡ true → unit < 128
quote_low quote unit true q e h = let same : unit ≡ 92 = grind (arith, nat_tests, e) in omega arith
quote_low quote unit false q e h = let same : unit ≡ quote = grind (arith, nat_tests, h) in omega arith

-- what is written of a unit
pub unit_low : (quote unit : ℕ) → quote < 128 → unit < 2 ^ 16 → list_all is_low (unit_spelled quote unit) ≡ true
unit_low quote unit q h =
    let P : List ℕ → Type 0 = λ t. list_all is_low t ≡ true in
    split P (unit == 92 || unit == quote) _ _ (λ e. and_both (is_low unit) true (low unit (quote_low quote unit (unit == 92) q refl e)) refl)
    (λ _. split P (unit == 0) _ _ (λ _. refl)
    (λ _. split P (unit == 10) _ _ (λ _. refl)
    (λ _. split P (unit == 13) _ _ (λ _. refl)
    (λ _. split P (unit == 9) _ _ (λ _. refl)
    (λ _. split P (nat_le 32 unit && nat_le unit 126) _ _ (λ e. and_both (is_low unit) true (low unit (grind (arith, nat_tests, e))) refl) (λ _. hex_low unit h))))))

pub units_low : (units : List ℕ) → All (λ unit. unit < 2 ^ 16) units → list_all is_low (flat_map (unit_spelled 34) units) ≡ true
units_low [] h = refl
units_low (unit ∷ units) h =
    let first : unit < 2 ^ 16 = h 0 0 (omega arith) in
    let others : All (λ u. u < 2 ^ 16) units = λ k d l. h (suc k) d (omega arith) in
    list_all-append is_low (unit_spelled 34 unit) (flat_map (unit_spelled 34) units) ∙ and_both _ _ (unit_low 34 unit (omega arith) first) (units_low units others)

in_quotes : (quote : ℕ) (cs : List ℕ) → is_low quote ≡ true → list_all is_low cs ≡ true → encodes (quote ∷ (cs ++ quote ∷ [])) ≡ quote ∷ (cs ++ quote ∷ [])
in_quotes quote cs q h =
    as_it_is (quote ∷ (cs ++ quote ∷ []))
    (and_both _ _ q (list_all-append is_low cs (quote ∷ []) ∙ and_both _ _ h (and_both _ _ q refl)))

pub character_bytes : (unit : ℕ) → unit < 2 ^ 16 → encodes (39 ∷ (unit_spelled 39 unit ++ 39 ∷ [])) ≡ 39 ∷ (unit_spelled 39 unit ++ 39 ∷ [])
character_bytes unit h = in_quotes 39 (unit_spelled 39 unit) refl (unit_low 39 unit (omega arith) h)

pub text_bytes : (units : List ℕ) → All (λ unit. unit < 2 ^ 16) units → encodes (34 ∷ (flat_map (unit_spelled 34) units ++ 34 ∷ [])) ≡ 34 ∷ (flat_map (unit_spelled 34) units ++ 34 ∷ [])
text_bytes units h = in_quotes 34 (flat_map (unit_spelled 34) units) refl (units_low units h)

digits_low : (ds : List ℕ) → list_all is_digit ds ≡ true → list_all is_low ds ≡ true
digits_low [] h = refl
digits_low (d ∷ ds) h =
    let each = both_true (is_digit d) (list_all is_digit ds) h in
    and_both _ _ (low d (grind (arith, nat_tests, each.0))) (digits_low ds each.1)

suffix_low : (s : Suffix) → list_all is_low (suffix_spelled s) ≡ true
suffix_low suffix.Plain = refl
suffix_low suffix.Unsigned = refl
suffix_low suffix.Long = refl
suffix_low suffix.UnsignedLong = refl

pub number_bytes : (n : ℕ) (s : Suffix) → n < 2 ^ 64 → encodes (decimal n ++ suffix_spelled s) ≡ decimal n ++ suffix_spelled s
number_bytes n s h =
    let numeral = decimal_is_IsNumeral n h in
    as_it_is (decimal n ++ suffix_spelled s)
    (list_all-append is_low (decimal n) (suffix_spelled s) ∙ and_both _ _ (digits_low (decimal n) (all_digits (decimal n) numeral.0.1)) (suffix_low s))

name_by : (b : Bool) (name : List ℕ) → IsUtf8 name → encodes (cond b (64 ∷ chars name) (chars name)) ≡ cond b (64 ∷ name) name
name_by true name u = ap (λ x. x ++ encodes (chars name)) (encode_ascii 64 (omega arith)) ∙ ap (λ x. 64 ∷ x) (encodes-chars name u)
name_by false name u = encodes-chars name u

pub name_bytes : (name : List ℕ) → IsUtf8 name → encodes (name_spelled name) ≡ cond (is_keyword name) (64 ∷ name) name
name_bytes name u = name_by (is_keyword name) name u
