-- A character or text that is written is read as it is.
use Rattle.std.proofs.Common.{◌≡◌, ℕ, suc, ◌+◌, ◌*◌, ◌/◌, ◌%◌, ◌^◌, ◌<◌, Bool, true, false, cond, List, [], ◌∷◌, ◌++◌, refl, sym, ◌∙◌, ap, arith}
use Rattle.std.specs.Prelude.{◌&&◌, ◌||◌, ◌==◌, nat_lt, nat_le, is_some, All, Some, None}
use Rattle.std.specs.List.{flat_map}
use Rattle.std.specs.Char.{digit_value, digit_char}
use Rattle.std.proofs.lemmas.List.{append_assoc}
use Rattle.std.proofs.lemmas.Str.{digit_value-digit_char}
use Rattle.std.proofs.lemmas.Bool.Decides.{nat_tests}
use Rattle.unicode_ident.specs.Ident.{is_xid_start}
use Rattle.unicode_ident.proofs.IdentLemmas.{is_xid_start-ascii}
use Rattle.cs_token.specs.declared.lexeme.Lexeme.TheVariants.{Char, Literal}
use Rattle.cs_token.specs.Tokens.{hex_digit_at, hex_at, escape_of, with_rest, one_unit, units_at, behind_quote, one_char, char_at, joined, text_at, made, token_at}
use Rattle.cs_token.proofs.Texts.{text_more}
use Rattle.cs_written.specs.Spelled.{hex_spelled, unit_spelled}
use Rattle.cs_written.proofs.Basics.{taken, skipped, split, or_false}

digit_read : (d : ℕ) (rest : List ℕ) → d < 16 → hex_digit_at (digit_char d ∷ rest) ≡ Some (d, rest)
digit_read d rest h =
    let value : digit_value (digit_char d) ≡ d = digit_value-digit_char d (omega arith) in
    let low : nat_lt d 16 ≡ true = grind (arith, nat_tests) in
    ap (λ v. cond (nat_lt v 16) (Some (v, rest)) None) value ∙ taken (nat_lt d 16) _ _ low

hex_read : (unit : ℕ) (rest : List ℕ) → unit < 2 ^ 16 → hex_at (hex_spelled unit ++ rest) ≡ Some (unit, rest)
hex_read unit rest h =
    let a = unit / 16 / 16 / 16 in
    let b = unit / 16 / 16 % 16 in
    let c = unit / 16 % 16 in
    let d = unit % 16 in
    let small : a < 16 = omega arith in
    let sum : ((a * 16 + b) * 16 + c) * 16 + d ≡ unit = omega arith in
    rw (digit_read a (digit_char b ∷ digit_char c ∷ digit_char d ∷ rest) small, digit_read b (digit_char c ∷ digit_char d ∷ rest) (omega arith), digit_read c (digit_char d ∷ rest) (omega arith), digit_read d rest (omega arith))
    (ap (λ n. Some (n, rest)) sum)

-- a short escape
escape_read : (c unit : ℕ) (rest : List ℕ) → (c == 117) ≡ false → escape_of c ≡ Some unit → units_at (92 ∷ c ∷ rest) ≡ Some (unit ∷ [], rest)
escape_read c unit rest n e = ap one_unit (skipped (c == 117) _ _ n ∙ ap (λ o. with_rest o rest) e)

-- a unit that stands for itself
self_read : (unit : ℕ) (rest : List ℕ) → (unit == 92) ≡ false → (unit == 10) ≡ false → (unit == 13) ≡ false → unit < 2 ^ 16 → units_at (unit ∷ rest) ≡ Some (unit ∷ [], rest)
self_read unit rest a b c h =
    let lines : (unit == 10 || unit == 13) ≡ false = ap (λ x. x || unit == 13) b ∙ c in
    let low : nat_lt unit 0x10000 ≡ true = grind (arith, nat_tests) in
    skipped (unit == 92) _ _ a ∙ (skipped (unit == 10 || unit == 13) _ _ lines ∙ ap (λ us. Some (us, rest)) (taken (nat_lt unit 0x10000) _ _ low))

numbered_read : (unit : ℕ) (rest : List ℕ) → unit < 2 ^ 16 → units_at (92 ∷ 117 ∷ (hex_spelled unit ++ rest)) ≡ Some (unit ∷ [], rest)
numbered_read unit rest h = ap one_unit (hex_read unit rest h)

same : (a b : ℕ) → (a == b) ≡ true → a ≡ b
same a b e = grind (arith, nat_tests, e)

-- the quote or `\`
quote_read : (quote unit : ℕ) (rest : List ℕ) → (quote == 117) ≡ false → escape_of quote ≡ Some quote → (b : Bool) → (unit == 92) ≡ b → (b || unit == quote) ≡ true
    → units_at (92 ∷ unit ∷ rest) ≡ Some (unit ∷ [], rest)
quote_read quote unit rest n q true e h = let is = same unit 92 e in escape_read unit unit rest (ap (λ c. c == 117) is) (ap escape_of is ∙ ap (λ c. Some c) (sym is))
quote_read quote unit rest n q false e h =
    let is = same unit quote h in
    escape_read unit unit rest (ap (λ c. c == 117) is ∙ n) (ap escape_of is ∙ (q ∙ ap (λ c. Some c) (sym is)))

short_read : (c unit value : ℕ) (rest : List ℕ) → (unit == value) ≡ true → (c == 117) ≡ false → escape_of c ≡ Some value → units_at (92 ∷ c ∷ rest) ≡ Some (unit ∷ [], rest)
short_read c unit value rest e n q = escape_read c unit rest n (q ∙ ap (λ v. Some v) (sym (same unit value e)))

unit_read : (quote unit : ℕ) (rest : List ℕ) → (quote == 117) ≡ false → escape_of quote ≡ Some quote → unit < 2 ^ 16 → units_at (unit_spelled quote unit ++ rest) ≡ Some (unit ∷ [], rest)
unit_read quote unit rest n q h =
    let P : List ℕ → Type 0 = λ t. units_at (t ++ rest) ≡ Some (unit ∷ [], rest) in
    split P (unit == 92 || unit == quote) _ _ (λ e. quote_read quote unit rest n q (unit == 92) refl e)
    (λ none. split P (unit == 0) _ _ (λ e. short_read 48 unit 0 rest e refl refl)
    (λ _. split P (unit == 10) _ _ (λ e. short_read 110 unit 10 rest e refl refl)
    (λ newline. split P (unit == 13) _ _ (λ e. short_read 114 unit 13 rest e refl refl)
    (λ return. split P (unit == 9) _ _ (λ e. short_read 116 unit 9 rest e refl refl)
    (λ _. split P (nat_le 32 unit && nat_le unit 126) _ _ (λ _. self_read unit rest (or_false (unit == 92) (unit == quote) none).0 newline return h) (λ _. numbered_read unit rest h))))))

-- nothing that is written of a unit begins with the quote
unit_opens : (quote unit : ℕ) (rest : List ℕ) → (92 == quote) ≡ false → behind_quote quote (unit_spelled quote unit ++ rest) ≡ None
unit_opens quote unit rest n =
    let P : List ℕ → Type 0 = λ t. behind_quote quote (t ++ rest) ≡ None in
    let here : (t : List ℕ) → behind_quote quote (92 ∷ t) ≡ None = λ t. skipped (92 == quote) _ _ n in
    split P (unit == 92 || unit == quote) _ _ (λ _. here _)
    (λ none. split P (unit == 0) _ _ (λ _. here _)
    (λ _. split P (unit == 10) _ _ (λ _. here _)
    (λ _. split P (unit == 13) _ _ (λ _. here _)
    (λ _. split P (unit == 9) _ _ (λ _. here _)
    (λ _. split P (nat_le 32 unit && nat_le unit 126) _ _ (λ _. skipped (unit == quote) _ _ (or_false (unit == 92) (unit == quote) none).1) (λ _. here _))))))

char_by : (t rest : List ℕ) (unit : ℕ) → behind_quote 39 t ≡ None → units_at t ≡ Some (unit ∷ [], 39 ∷ rest) → char_at t ≡ Some (unit, rest)
char_by t rest unit q e = ap (λ o. cond (is_some o) None (one_char t)) q ∙ rw e refl

pub char_read : (unit : ℕ) (rest : List ℕ) → unit < 2 ^ 16 → char_at (unit_spelled 39 unit ++ 39 ∷ rest) ≡ Some (unit, rest)
char_read unit rest h = char_by (unit_spelled 39 unit ++ 39 ∷ rest) rest unit (unit_opens 39 unit (39 ∷ rest) refl) (unit_read 39 unit (39 ∷ rest) refl refl h)

pub text_read : (units rest : List ℕ) → All (λ unit. unit < 2 ^ 16) units → text_at (flat_map (unit_spelled 34) units ++ 34 ∷ rest) ≡ Some (units, rest)
text_read [] rest h = refl
text_read (unit ∷ units) rest h =
    let first : unit < 2 ^ 16 = h 0 0 (omega arith) in
    let others : All (λ u. u < 2 ^ 16) units = λ k d l. h (suc k) d (omega arith) in
    let tail = flat_map (unit_spelled 34) units ++ 34 ∷ rest in
    ap text_at (append_assoc (unit_spelled 34 unit) (flat_map (unit_spelled 34) units) (34 ∷ rest))
    ∙ (text_more (unit_spelled 34 unit ++ tail) (unit ∷ []) tail (unit_opens 34 unit tail refl) (unit_read 34 unit tail refl refl first)
    ∙ ap (joined (unit ∷ [])) (text_read units rest others))

pub quoted_char_read : (unit : ℕ) (rest : List ℕ) → unit < 2 ^ 16 → token_at (39 ∷ (unit_spelled 39 unit ++ 39 ∷ rest)) ≡ Some (Char unit, rest)
quoted_char_read unit rest h =
    let start : is_xid_start 39 ≡ false = is_xid_start-ascii 39 (omega arith) in
    skipped (39 == 95 || is_xid_start 39) _ _ start ∙ ap (made (λ u. Char u)) (char_read unit rest h)

pub quoted_text_read : (units rest : List ℕ) → All (λ unit. unit < 2 ^ 16) units → token_at (34 ∷ (flat_map (unit_spelled 34) units ++ 34 ∷ rest)) ≡ Some (Literal units, rest)
quoted_text_read units rest h =
    let start : is_xid_start 34 ≡ false = is_xid_start-ascii 34 (omega arith) in
    skipped (34 == 95 || is_xid_start 34) _ _ start ∙ ap (made (λ us. Literal us)) (text_read units rest h)
