-- Texts in quotes, from behind the opening quote on: the number of characters that bounds the reading is always enough.
use Rattle.std.proofs.Common.{◌≡◌, ℕ, zero, suc, ◌<◌, ◌≤◌, Bool, true, false, cond, nat_lt, eqb, List, [], ◌∷◌, ◌++◌, length, Option, Some, None, refl, sym, ◌∙◌, ap, arith}
use Rattle.std.specs.Prelude.{option_and_then}
use Rattle.std.specs.Char.{digit_value}
use Rattle.std.specs.Str.{chars}
use Rattle.std.specs.Char.Escape.{encode_utf16}
use Rattle.std.proofs.lemmas.List.{append_assoc, append-nil}
use Rattle.cs_token.specs.Tokens.{hex_digit_at, hex_at, escape_of, with_rest, escape_at, one_unit, units_at, behind_quote, joined, onward, text_within, text_at}

-- what a choice between an answer and none gives
chosen : {A : Type 0} (b : Bool) (q p : A) → cond b (Some q) None ≡ Some p → q ≡ p
chosen true q p e = cc
chosen false q p e = absurd (cc)

both : {A B : Type 0} (o : Option A) (f : A → Option B) (q : B) → option_and_then f o ≡ Some q → (a : A) × (o ≡ Some a) × (f a ≡ Some q)
both None f q e = absurd (cc)
both (Some a) f q e = (a, refl, e)

hex_digit_shorter : (t : List ℕ) (p : ℕ × List ℕ) → hex_digit_at t ≡ Some p → length p.1 < length t
hex_digit_shorter [] p e = absurd (cc)
hex_digit_shorter (c ∷ r) p e =
    let same : (let q : ℕ × List ℕ = (digit_value c, r) in q) ≡ p = chosen (nat_lt (digit_value c) 16) (digit_value c, r) p e in
    let size : length r ≡ length p.1 = ap (λ (q : ℕ × List ℕ). length q.1) same in
    omega arith

hex_shorter : (t : List ℕ) (p : ℕ × List ℕ) → hex_at t ≡ Some p → length p.1 < length t
hex_shorter t p e =
    let a = both (hex_digit_at t) _ p e in
    let b = both (hex_digit_at a.0.1) _ p a.2 in
    let c = both (hex_digit_at b.0.1) _ p b.2 in
    let d = both (hex_digit_at c.0.1) _ p c.2 in
    let la = hex_digit_shorter t a.0 a.1 in
    let lb = hex_digit_shorter a.0.1 b.0 b.1 in
    let lc = hex_digit_shorter b.0.1 c.0 c.1 in
    let ld = hex_digit_shorter c.0.1 d.0 d.1 in
    let size : length d.0.1 ≡ length p.1 = ap length (cc) in
    omega arith

with_rest_shorter : (o : Option ℕ) (r : List ℕ) (p : ℕ × List ℕ) → with_rest o r ≡ Some p → r ≡ p.1
with_rest_shorter None r p e = absurd (cc)
with_rest_shorter (Some u) r p e = cc

escape_by : (b : Bool) (c : ℕ) (r : List ℕ) (p : ℕ × List ℕ) → cond b (hex_at r) (with_rest (escape_of c) r) ≡ Some p → length p.1 ≤ length r
escape_by true c r p e = let l = hex_shorter r p e in omega arith
escape_by false c r p e = let size : length r ≡ length p.1 = ap length (with_rest_shorter (escape_of c) r p e) in omega arith

escape_shorter : (t : List ℕ) (p : ℕ × List ℕ) → escape_at t ≡ Some p → length p.1 ≤ length t
escape_shorter [] p e = absurd (cc)
escape_shorter (c ∷ r) p e = let l = escape_by (eqb c 117) c r p e in omega arith

one_unit_shorter : (o : Option (ℕ × List ℕ)) (p : List ℕ × List ℕ) → one_unit o ≡ Some p → (q : ℕ × List ℕ) × (o ≡ Some q) × (q.1 ≡ p.1)
one_unit_shorter None p e = absurd (cc)
one_unit_shorter (Some q) p e = (q, refl, cc)

plain_by : (b : Bool) (c : ℕ) (r : List ℕ) (p : List ℕ × List ℕ) → cond b None (Some (encode_utf16 c, r)) ≡ Some p → r ≡ p.1
plain_by true c r p e = absurd (cc)
plain_by false c r p e = cc

units_by : (b d : Bool) (c : ℕ) (r : List ℕ) (p : List ℕ × List ℕ) → cond b (one_unit (escape_at r)) (cond d None (Some (encode_utf16 c, r))) ≡ Some p → length p.1 ≤ length r
units_by true d c r p e =
    let q = one_unit_shorter (escape_at r) p e in
    let l = escape_shorter r q.0 q.1 in
    let size : length q.0.1 ≡ length p.1 = ap length q.2 in
    omega arith
units_by false d c r p e = let size : length r ≡ length p.1 = ap length (plain_by d c r p e) in omega arith

units_shorter : (c : ℕ) (r : List ℕ) (p : List ℕ × List ℕ) → units_at (c ∷ r) ≡ Some p → length p.1 ≤ length r
units_shorter c r p e = units_by _ _ c r p e

onward_same : (o : Option (List ℕ × List ℕ)) (f g : List ℕ → Option (List ℕ × List ℕ)) → ((p : List ℕ × List ℕ) → o ≡ Some p → f p.1 ≡ g p.1) → onward o f ≡ onward o g
onward_same None f g h = refl
onward_same (Some p) f g h = ap (joined p.0) (h p refl)

enough : (n m : ℕ) (t : List ℕ) → length t ≤ n → length t ≤ m → text_within n t ≡ text_within m t
enough zero zero t h k = refl
enough zero (suc m) [] h k = refl
enough zero (suc m) (c ∷ r) h k = absurd (omega arith)
enough (suc n) zero [] h k = refl
enough (suc n) zero (c ∷ r) h k = absurd (omega arith)
enough (suc n) (suc m) [] h k = refl
enough (suc n) (suc m) (c ∷ r) h k =
    ap (λ o. cond (eqb c 34) (Some ([], r)) o)
    (onward_same (units_at (c ∷ r)) (text_within n) (text_within m) (λ p e. let l = units_shorter c r p e in enough n m p.1 (omega arith) (omega arith)))

no_quote : (b : Bool) (r : List ℕ) (o : Option (List ℕ × List ℕ)) → cond b (Some r) None ≡ None → cond b (Some ([], r)) o ≡ o
no_quote true r o e = absurd (cc)
no_quote false r o e = refl

-- a text goes on behind one character or escape
pub text_more : (t : List ℕ) (us rest : List ℕ) → behind_quote 34 t ≡ None → units_at t ≡ Some (us, rest) → text_at t ≡ joined us (text_at rest)
text_more [] us rest q e = absurd (cc)
text_more (c ∷ r) us rest q e =
    let l = units_shorter c r (us, rest) e in
    no_quote (eqb c 34) r (onward (units_at (c ∷ r)) (text_within (length r))) q
    ∙ (ap (λ o. onward o (text_within (length r))) e ∙ ap (joined us) (enough (length r) (length rest) rest (omega arith) (omega arith)))

joined_none : (o : Option (List ℕ × List ℕ)) → o ≡ joined [] o
joined_none None = refl
joined_none (Some p) = refl

joined_more : (us vs : List ℕ) (o : Option (List ℕ × List ℕ)) → joined us (joined vs o) ≡ joined (us ++ vs) o
joined_more us vs None = refl
joined_more us vs (Some p) = ap (λ x. Some (x, p.1)) (sym (append_assoc us vs p.0))

-- these units stand before the rest
pub record Joins (units text left : List ℕ) : Type 0 where
  pub so_far : text_at (chars text) ≡ joined units (text_at (chars left))

pub joins_none : (text : List ℕ) → Joins [] text text
joins_none text = record { so_far = joined_none (text_at (chars text)) }

pub joins_more : (units us text left rest : List ℕ) → Joins units text left → text_at (chars left) ≡ joined us (text_at (chars rest)) → Joins (units ++ us) text rest
joins_more units us text left rest k e = record { so_far = k.so_far ∙ (ap (joined units) e ∙ joined_more units us (text_at (chars rest))) }

pub joins_end : (units text left rest : List ℕ) → Joins units text left → text_at (chars left) ≡ Some ([], rest) → text_at (chars text) ≡ Some (units, rest)
joins_end units text left rest k e = k.so_far ∙ (ap (joined units) e ∙ ap (λ x. Some (x, rest)) (append-nil units))

pub joins_wrong : (units text left : List ℕ) → Joins units text left → text_at (chars left) ≡ None → text_at (chars text) ≡ None
joins_wrong units text left k e = k.so_far ∙ ap (joined units) e
