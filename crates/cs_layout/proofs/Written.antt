-- Pieces are tokens that are written with the gaps between them.
use Rattle.std.proofs.Common.{◌≡◌, ℕ, ◌<◌, Bool, true, false, List, [], ◌∷◌, ◌++◌, refl, sym, ◌∙◌, ap, arith}
use Rattle.std.specs.Prelude.{◌&&◌}
use Rattle.std.specs.List.{flat_map, list_all}
use Rattle.std.proofs.Math.Utf8.{encodes}
use Rattle.std.proofs.lemmas.Str.{encode_ascii, encodes-append}
use Rattle.std.proofs.lemmas.List.{append_assoc, append-nil}
use Rattle.std.proofs.lemmas.Bool.Decides.{nat_tests}
use Rattle.cs_token.specs.Words.{is_blank}
use Rattle.cs_written.specs.Spelled.{spelled}
use Rattle.cs_written.specs.Written.{written}
use Rattle.cs_layout.specs.Pieces.{Piece, gap, token, piece_bytes, tokens_behind, last_behind, has_blank_gaps}

both : (a b : Bool) → (a && b) ≡ true → (a ≡ true) × (b ≡ true)
both true b e = (refl, e)
both false b e = absurd (cc)

blank_low : (c : ℕ) → is_blank c ≡ true → c < 128
blank_low c h = grind (arith, nat_tests, h)

blanks_bytes : (g : List ℕ) → list_all is_blank g ≡ true → encodes g ≡ g
blanks_bytes [] h = refl
blanks_bytes (c ∷ g) h =
    let each = both (is_blank c) (list_all is_blank g) h in
    ap (λ x. x ++ encodes g) (encode_ascii c (blank_low c each.0)) ∙ ap (λ x. c ∷ x) (blanks_bytes g each.1)

pub bytes_from : (g : List ℕ) (ps : List Piece) → has_blank_gaps ps ≡ true
    → encodes g ++ flat_map piece_bytes ps ≡ encodes (written (tokens_behind g ps) (last_behind g ps))
bytes_from g [] h = append-nil (encodes g)
bytes_from g (gap b ∷ ps) h =
    let each = both (list_all is_blank b) (has_blank_gaps ps) h in
    let rest = flat_map piece_bytes ps in
    ap (λ x. encodes g ++ (x ++ rest)) (sym (blanks_bytes b each.0))
    ∙ (sym (append_assoc (encodes g) (encodes b) rest) ∙ (ap (λ x. x ++ rest) (sym (encodes-append g b)) ∙ bytes_from (g ++ b) ps each.1))
bytes_from g (token l ∷ ps) h =
    let more = written (tokens_behind [] ps) (last_behind [] ps) in
    let others : flat_map piece_bytes ps ≡ encodes more = bytes_from [] ps h in
    ap (λ x. encodes g ++ (encodes (spelled l) ++ x)) others
    ∙ (ap (λ x. encodes g ++ x) (sym (encodes-append (spelled l) more)) ∙ sym (encodes-append g (spelled l ++ more)))
