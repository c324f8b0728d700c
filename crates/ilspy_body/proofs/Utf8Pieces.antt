-- The bytes of pieces that are written well are text in UTF-8.
use Rattle.std.proofs.Common.{◌≡◌, ℕ, ◌^◌, ◌<◌, Bool, true, cond, List, [], ◌∷◌, ◌++◌, Some, refl, sym, ◌∙◌, ap, subst, arith}
use Rattle.std.specs.Prelude.{◌&&◌, nat_lt, slice_index_or, IsUtf8}
use Rattle.std.specs.Char.{IsScalar}
use Rattle.std.specs.Str.{IsAscii}
use Rattle.std.specs.List.{list_all, flat_map}
use Rattle.std.specs.Fmt.{decimal}
use Rattle.std.proofs.Math.Utf8.{encodes}
use Rattle.std.proofs.lemmas.Fmt.{decimal_is_IsNumeral}
use Rattle.std.proofs.lemmas.List.Folds.{list_all-append}
use Rattle.std.proofs.lemmas.Str.{IsUtf8-nil, IsUtf8-append, IsUtf8-encode, IsUtf8-from_ascii}
use Rattle.std.proofs.lemmas.Str.Ascii.{IsAscii-nil, IsAscii-cons}
use Rattle.std.proofs.lemmas.Bool.Decides.{nat_tests}
use Rattle.dc_base.specs.Identifiers.{keywords, is_keyword}
use Rattle.cs_token.specs.Words.{is_blank, is_digit}
use Rattle.cs_token.specs.declared.lexeme.Suffix.{Suffix}
use Rattle.cs_token.specs.declared.lexeme.Suffix.TheVariants as suffix
use Rattle.cs_token.specs.declared.lexeme.Lexeme.{Lexeme}
use Rattle.cs_token.specs.declared.lexeme.Lexeme.TheVariants.{Name, Keyword, Number, Char, Literal, Sign}
use Rattle.cs_written.specs.Spelled.{suffix_spelled, sign_spelled, unit_spelled, spelled, IsSpellable}
use Rattle.cs_written.proofs.Basics.{both_true, all_below, below, split}
use Rattle.cs_written.proofs.Numerals.{all_digits}
use Rattle.cs_written.proofs.Ascii.{unit_low, units_low, name_bytes}
use Rattle.cs_layout.specs.Pieces.{Piece, gap, token, piece_bytes}
use Rattle.cs_roundtrip_written.specs.Sound.{Before, after_gap, Well}

-- ASCII
abbrev is_low : ℕ → Bool
is_low c = nat_lt c 128

and_both : (a b : Bool) → a ≡ true → b ≡ true → (a && b) ≡ true
and_both a b e f = ap (λ x. x && b) e ∙ f

low_scalar : (c : ℕ) → is_low c ≡ true → IsScalar c
low_scalar c h = grind (arith, nat_tests, h)

low_utf8 : (cs : List ℕ) → list_all is_low cs ≡ true → IsUtf8 (encodes cs)
low_utf8 [] h = IsUtf8-nil
low_utf8 (c ∷ cs) h =
    let each = both_true (is_low c) (list_all is_low cs) h in
    IsUtf8-append _ (encodes cs) (IsUtf8-encode c (low_scalar c each.0)) (low_utf8 cs each.1)

-- blanks, as they are
blank_low : (c : ℕ) → is_blank c ≡ true → c < 128
blank_low c h = grind (arith, nat_tests, h)

blanks_ascii : (g : List ℕ) → list_all is_blank g ≡ true → IsAscii g
blanks_ascii [] h = IsAscii-nil
blanks_ascii (c ∷ g) h =
    let each = both_true (is_blank c) (list_all is_blank g) h in
    IsAscii-cons c g (blank_low c each.0) (blanks_ascii g each.1)

-- digits
digits_low : (ds : List ℕ) → list_all is_digit ds ≡ true → list_all is_low ds ≡ true
digits_low [] h = refl
digits_low (d ∷ ds) h =
    let each = both_true (is_digit d) (list_all is_digit ds) h in
    let low : is_low d ≡ true = grind (arith, nat_tests, each.0) in
    and_both (is_low d) (list_all is_low ds) low (digits_low ds each.1)

suffix_low : (s : Suffix) → list_all is_low (suffix_spelled s) ≡ true
suffix_low suffix.Plain = refl
suffix_low suffix.Unsigned = refl
suffix_low suffix.Long = refl
suffix_low suffix.UnsignedLong = refl

number_low : (n : ℕ) (s : Suffix) → n < 2 ^ 64 → list_all is_low (decimal n ++ suffix_spelled s) ≡ true
number_low n s h =
    list_all-append is_low (decimal n) (suffix_spelled s)
    ∙ and_both _ _ (digits_low (decimal n) (all_digits (decimal n) (decimal_is_IsNumeral n h).0.1)) (suffix_low s)

-- what stands in quotes
quoted_low : (quote : ℕ) (cs : List ℕ) → is_low quote ≡ true → list_all is_low cs ≡ true → list_all is_low (quote ∷ (cs ++ quote ∷ [])) ≡ true
quoted_low quote cs q h = and_both _ _ q (list_all-append is_low cs (quote ∷ []) ∙ and_both _ _ h (and_both _ _ q refl))

-- keywords and signs, as computing shows
keywords_low : all_below (λ k. list_all is_low (slice_index_or keywords k [])) 77 ≡ true
keywords_low = refl

signs_low : all_below (λ k. list_all is_low (sign_spelled k)) 40 ≡ true
signs_low = refl

-- a token
name_utf8 : (name : List ℕ) → IsUtf8 name → IsUtf8 (cond (is_keyword name) (64 ∷ name) name)
name_utf8 name h =
    split IsUtf8 (is_keyword name) (64 ∷ name) name (λ _. IsUtf8-append (64 ∷ []) name (IsUtf8-from_ascii (64 ∷ []) (IsAscii-cons 64 [] (omega arith) IsAscii-nil)) h) (λ _. h)

token_utf8 : (l : Lexeme) → IsSpellable l → IsUtf8 (encodes (spelled l))
token_utf8 (Name name) h = subst IsUtf8 (sym (name_bytes name h.0)) (name_utf8 name h.0)
token_utf8 (Keyword k) h = low_utf8 (slice_index_or keywords k []) (below (λ k. list_all is_low (slice_index_or keywords k [])) 77 k keywords_low h)
token_utf8 (Number n s) h = low_utf8 (decimal n ++ suffix_spelled s) (number_low n s h)
token_utf8 (Char unit) h = low_utf8 (39 ∷ (unit_spelled 39 unit ++ 39 ∷ [])) (quoted_low 39 (unit_spelled 39 unit) refl (unit_low 39 unit (omega arith) h))
token_utf8 (Literal units) h = low_utf8 (34 ∷ (flat_map (unit_spelled 34) units ++ 34 ∷ [])) (quoted_low 34 (flat_map (unit_spelled 34) units) refl (units_low units h))
token_utf8 (Sign k) h = low_utf8 (sign_spelled k) (below (λ k. list_all is_low (sign_spelled k)) 40 k signs_low h)

-- pieces
pub pieces_utf8 : (s : Before) (ps : List Piece) → Well s ps → IsUtf8 (flat_map piece_bytes ps)
pieces_utf8 s [] w = IsUtf8-nil
pieces_utf8 s (gap g ∷ ps) w = IsUtf8-append g (flat_map piece_bytes ps) (IsUtf8-from_ascii g (blanks_ascii g w.0)) (pieces_utf8 (after_gap s g) ps w.1)
pieces_utf8 s (token l ∷ ps) w = IsUtf8-append (encodes (spelled l)) (flat_map piece_bytes ps) (token_utf8 l w.0) (pieces_utf8 (Some l) ps w.2)
