-- A note is in ASCII and stays on its line.
use Rattle.std.proofs.Common.{◌≡◌, inl, inr, ℕ, ◌+◌, ◌-◌, ◌<◌, ◌^◌, ◌/◌, ◌%◌, true, List, [], ◌∷◌, ◌++◌, Option, Some, None, refl, ◌∙◌, arith}
use Rattle.std.specs.Prelude.{IsUtf8, ◌&&◌, nat_lt, nat_le, codes}
use Rattle.std.specs.List.{list_all, flat_map}
use Rattle.std.specs.Char.{digit_char}
use Rattle.std.specs.Char.Escape.{encode_utf16}
use Rattle.std.specs.Str.{chars, all_scalars}
use lib.Utf8.{scalar, scalar_cases}
use Rattle.std.proofs.lemmas.List.Folds.{list_all-append}
use Rattle.std.proofs.lemmas.Str.{scalars-chars}
use Rattle.std.proofs.lemmas.Bool.Decides.{nat_tests}
use Rattle.cs_token.specs.Words.{is_blank}
use Rattle.cs_written.proofs.Basics.{split, both_true}
use Rattle.cs_layout.specs.Words.{fixed}
use Rattle.cs_layout.specs.Layout.{indent}
use Rattle.cs_unit_layout.specs.Heads.{unit_noted, char_noted, noted, name_note, note_pieces, assembly_note, assembly_pieces}
use Rattle.cs_roundtrip_texts.specs.Notes.{some_note, AreTexts}
use Rattle.cs_roundtrip_texts.specs.Lines.{Lines}
use Rattle.cs_roundtrip_texts.proofs.Spelled.{and_both}
use Rattle.cs_roundtrip_texts.proofs.Lines.{in_line, lines_none, lines_margin, lines_comment}

digit_line : (d : ℕ) → d < 16 → in_line (digit_char d) ≡ true
digit_line d h = grind (arith, nat_tests)

unit_line : (unit : ℕ) → unit < 2 ^ 16 → list_all in_line (unit_noted unit) ≡ true
unit_line unit h =
    and_both _ _ (digit_line (unit / 16 / 16 / 16) (omega arith))
    (and_both _ _ (digit_line (unit / 16 / 16 % 16) (omega arith))
    (and_both _ _ (digit_line (unit / 16 % 16) (omega arith)) (and_both _ _ (digit_line (unit % 16) (omega arith)) refl)))

units_line : (units : List ℕ) → list_all (λ u. nat_lt u (2 ^ 16)) units ≡ true → list_all in_line (flat_map unit_noted units) ≡ true
units_line [] h = refl
units_line (u ∷ us) h =
    let each = both_true (nat_lt u (2 ^ 16)) (list_all (λ v. nat_lt v (2 ^ 16)) us) h in
    list_all-append in_line (unit_noted u) (flat_map unit_noted us) ∙ and_both _ _ (unit_line u (grind (arith, nat_tests, each.0))) (units_line us each.1)

below : (c n : ℕ) → c < n → nat_lt c n ≡ true
below c n h = grind (arith, nat_tests)

pair_below : (c : ℕ) → c < 1114112 → list_all (λ u. nat_lt u (2 ^ 16)) (encode_utf16 c) ≡ true
pair_below c h =
    let P : List ℕ → Type 0 = λ t. list_all (λ u. nat_lt u (2 ^ 16)) t ≡ true in
    split P (nat_lt c 0x1_0000) _ _ (λ e. and_both _ true e refl)
    (λ _. and_both _ _ (below (0xD800 + (c - 0x1_0000) / 0x400) (2 ^ 16) (omega arith)) (and_both _ true (below (0xDC00 + (c - 0x1_0000) % 0x400) (2 ^ 16) (omega arith)) refl))

scalar_below : (c : ℕ) → scalar c ≡ true → c < 1114112
scalar_below c h = elim (scalar_cases c h) [
  | inl l ↦ omega (arith, l)
  | inr p ↦ p.1
]

printed_line : (c : ℕ) → (nat_le 32 c && nat_le c 126) ≡ true → in_line c ≡ true
printed_line c h = grind (arith, nat_tests, h)

char_line : (c : ℕ) → c < 1114112 → list_all in_line (char_noted c) ≡ true
char_line c h =
    let P : List ℕ → Type 0 = λ t. list_all in_line t ≡ true in
    split P (nat_le 32 c && nat_le c 126) _ _ (λ e. and_both _ true (printed_line c e) refl) (λ _. units_line (encode_utf16 c) (pair_below c h))

chars_line : (cs : List ℕ) → all_scalars cs ≡ true → list_all in_line (flat_map char_noted cs) ≡ true
chars_line [] h = refl
chars_line (c ∷ cs) h =
    let each = both_true _ (all_scalars cs) h in
    list_all-append in_line (char_noted c) (flat_map char_noted cs) ∙ and_both _ _ (char_line c (scalar_below c each.0)) (chars_line cs each.1)

noted_line : (text : List ℕ) → IsUtf8 text → list_all in_line (flat_map char_noted (chars text)) ≡ true
noted_line text u = chars_line (chars text) (scalars-chars text u)

pub lines_note : (note : Option (List ℕ)) (margin : List ℕ) → list_all is_blank margin ≡ true → AreTexts (some_note note) → Lines (note_pieces note margin)
unfolding indent fixed name_note noted
lines_note None margin blank u = lines_none
lines_note (Some text) margin blank u = lines_margin margin blank (lines_comment (codes "// name: ") (flat_map char_noted (chars text)) refl (λ rest h. h) (noted_line text u.0))

pub lines_assembly : (assembly : Option (List ℕ)) → AreTexts (some_note assembly) → Lines (assembly_pieces assembly)
unfolding fixed assembly_note noted
lines_assembly None u = lines_none
lines_assembly (Some text) u = lines_comment (codes "// assembly ") (flat_map char_noted (chars text)) refl (λ rest h. h) (noted_line text u.0)

-- the notes of parts
pub texts_left : (xs ys : List (List ℕ)) → AreTexts (xs ++ ys) → AreTexts xs
texts_left [] ys h = tt
texts_left (x ∷ xs) ys h = (h.0, texts_left xs ys h.1)

pub texts_right : (xs ys : List (List ℕ)) → AreTexts (xs ++ ys) → AreTexts ys
texts_right [] ys h = h
texts_right (x ∷ xs) ys h = texts_right xs ys h.1
