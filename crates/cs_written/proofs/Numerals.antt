-- A number that is written is read as it is.
use Rattle.std.proofs.Common.{◌≡◌, ℕ, ◌^◌, ◌<◌, Bool, true, false, cond, List, [], ◌∷◌, ◌++◌, refl, ◌∙◌, ap, arith}
use Rattle.std.specs.Prelude.{not, ◌&&◌, ◌||◌, ◌==◌, nat_lt, length, Some, None}
use Rattle.std.specs.List.{list_all}
use Rattle.std.specs.Char.{digit_value, is_ascii_alphabetic}
use Rattle.std.specs.Fmt.{decimal}
use Rattle.std.specs.Str.Parse.{AllDigits, digits_value}
use Rattle.std.proofs.lemmas.Fmt.{decimal_is_IsNumeral}
use Rattle.std.proofs.lemmas.List.{append_assoc}
use Rattle.std.proofs.lemmas.Bool.Decides.{nat_tests}
use Rattle.unicode_ident.specs.Ident.{is_xid_start}
use Rattle.unicode_ident.proofs.IdentLemmas.{is_xid_start-ascii}
use Rattle.cs_token.specs.declared.lexeme.Suffix.{Suffix}
use Rattle.cs_token.specs.declared.lexeme.Suffix.TheVariants as suffix
use Rattle.cs_token.specs.declared.lexeme.Lexeme.TheVariants.{Number}
use Rattle.cs_token.specs.Words.{front, behind, is_digit, number_of, behind_u, suffix_at}
use Rattle.cs_token.specs.Tokens.{numbered, token_at}
use Rattle.cs_written.specs.Spelled.{suffix_spelled}
use Rattle.cs_written.proofs.Basics.{taken, skipped, not_true, or_false, stops, front_all, behind_all}

-- what would go on with a number
abbrev pub goes_on : ℕ → Bool
goes_on c = is_digit c || c == 85 || c == 76

digit_by : (c : ℕ) → digit_value c < 10 → is_digit c ≡ true
digit_by c h = grind (arith, nat_tests)

pub all_digits : (cs : List ℕ) → AllDigits 10 cs → list_all is_digit cs ≡ true
all_digits [] h = refl
all_digits (c ∷ cs) h = ap (λ b. b && list_all is_digit cs) (digit_by c h.0) ∙ all_digits cs h.1

digit_head : (c : ℕ) (rest : List ℕ) → is_digit c ≡ true → token_at (c ∷ rest) ≡ numbered (number_of (front is_digit (c ∷ rest))) (suffix_at (behind is_digit (c ∷ rest)))
digit_head c rest h =
    let low : c < 128 = grind (arith, nat_tests, h) in
    let letter : is_ascii_alphabetic c ≡ false = grind (arith, nat_tests, h) in
    let line : (c == 95) ≡ false = grind (arith, nat_tests, h) in
    let at : (c == 64) ≡ false = grind (arith, nat_tests, h) in
    let word : (c == 95 || is_xid_start c) ≡ false = ap (λ x. x || is_xid_start c) line ∙ (is_xid_start-ascii c low ∙ letter) in
    skipped (c == 95 || is_xid_start c) _ _ word ∙ (skipped (c == 64) _ _ at ∙ taken (is_digit c) _ _ h)

plain_suffix : (rest : List ℕ) → stops goes_on rest ≡ true → suffix_at rest ≡ (suffix.Plain, rest)
plain_suffix [] s = refl
plain_suffix (c ∷ rest) s =
    let each = or_false (is_digit c || c == 85) (c == 76) (not_true (goes_on c) s) in
    let more = or_false (is_digit c) (c == 85) each.0 in
    skipped (c == 85) _ _ more.1 ∙ skipped (c == 76) _ _ each.1

after_u : (rest : List ℕ) → stops goes_on rest ≡ true → behind_u rest ≡ (suffix.Unsigned, rest)
after_u [] s = refl
after_u (c ∷ rest) s = skipped (c == 76) _ _ (or_false (is_digit c || c == 85) (c == 76) (not_true (goes_on c) s)).1

suffix_read : (s : Suffix) (rest : List ℕ) → stops goes_on rest ≡ true → suffix_at (suffix_spelled s ++ rest) ≡ (s, rest)
suffix_read suffix.Plain rest h = plain_suffix rest h
suffix_read suffix.Unsigned rest h = after_u rest h
suffix_read suffix.Long rest h = refl
suffix_read suffix.UnsignedLong rest h = refl

no_digit : (rest : List ℕ) → stops goes_on rest ≡ true → stops is_digit rest ≡ true
no_digit [] s = refl
no_digit (c ∷ rest) s =
    let each = or_false (is_digit c || c == 85) (c == 76) (not_true (goes_on c) s) in
    ap not (or_false (is_digit c) (c == 85) each.0).0

suffix_stops : (s : Suffix) (rest : List ℕ) → stops goes_on rest ≡ true → stops is_digit (suffix_spelled s ++ rest) ≡ true
suffix_stops suffix.Plain rest h = no_digit rest h
suffix_stops suffix.Unsigned rest h = refl
suffix_stops suffix.Long rest h = refl
suffix_stops suffix.UnsignedLong rest h = refl

first_digit : (a b : Bool) → (a && b) ≡ true → a ≡ true
first_digit true b e = refl
first_digit false b e = absurd (cc)

is_below : (n : ℕ) → n < 2 ^ 64 → nat_lt n (2 ^ 64) ≡ true
is_below n h = grind (arith, nat_tests)

digits_read : (ds tail : List ℕ) (n : ℕ) → 0 < length ds → list_all is_digit ds ≡ true → stops is_digit tail ≡ true → digits_value 10 ds ≡ n → n < 2 ^ 64
    → token_at (ds ++ tail) ≡ numbered (Some n) (suffix_at tail)
digits_read [] tail n l h s e b = absurd (omega arith)
digits_read (c ∷ ds) tail n l h s e b =
    let first : is_digit c ≡ true = first_digit (is_digit c) (list_all is_digit ds) h in
    let value : number_of (c ∷ ds) ≡ Some n = ap (λ m. cond (nat_lt m (2 ^ 64)) (Some m) None) e ∙ taken (nat_lt n (2 ^ 64)) _ _ (is_below n b) in
    digit_head c (ds ++ tail) first
    ∙ (ap (λ f. numbered (number_of f) (suffix_at (behind is_digit (c ∷ ds ++ tail)))) (front_all is_digit (c ∷ ds) tail h s)
    ∙ (ap (λ r. numbered (number_of (c ∷ ds)) (suffix_at r)) (behind_all is_digit (c ∷ ds) tail h s) ∙ ap (λ o. numbered o (suffix_at tail)) value))

pub number_read : (n : ℕ) (s : Suffix) (rest : List ℕ) → n < 2 ^ 64 → stops goes_on rest ≡ true → token_at ((decimal n ++ suffix_spelled s) ++ rest) ≡ Some (Number n s, rest)
number_read n s rest b h =
    let numeral = decimal_is_IsNumeral n b in
    ap token_at (append_assoc (decimal n) (suffix_spelled s) rest)
    ∙ (digits_read (decimal n) (suffix_spelled s ++ rest) n numeral.0.0 (all_digits (decimal n) numeral.0.1) (suffix_stops s rest h) numeral.1 b
    ∙ ap (numbered (Some n)) (suffix_read s rest h))
