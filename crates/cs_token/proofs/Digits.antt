-- What the digits so far tell of a number.
use Rattle.std.proofs.Common.{◌≡◌, ℕ, ◌+◌, ◌*◌, ◌^◌, ◌≤◌, Bool, true, false, cond, nat_lt, List, [], ◌∷◌, ◌++◌, Option, Some, None, refl, sym, ◌∙◌, ap, arith}
use Rattle.std.specs.Char.{digit_value}
use Rattle.std.specs.Str.{chars}
use Rattle.std.specs.Str.Parse.{digits_value}
use Rattle.std.proofs.lemmas.List.{append_assoc, append-nil}
use Rattle.std.proofs.lemmas.Int.Digits.{digits_value_push}
use Rattle.std.proofs.lemmas.Bool.Decides.{nat_tests}
use Rattle.cs_token.specs.Words.{front, behind, is_digit, number_of}
use Rattle.cs_token.specs.Pieces.{Follows, BeginsWithDigit, shifted}
use Rattle.cs_token.proofs.Parts.{itself, onward}

told : (n : ℕ) (b : Bool) → nat_lt n (2 ^ 64) ≡ b → cond (nat_lt n (2 ^ 64)) (Some n) None ≡ cond b (Some n) None
told n b e = ap (λ c. cond c (Some n) None) e

not_below : (n m : ℕ) → m ≤ n → nat_lt n m ≡ false
not_below n m h = grind (arith, nat_tests)

shifted_by : (m d : ℕ) (b : Bool) → nat_lt m (2 ^ 64) ≡ b → shifted (cond b (Some m) None) d ≡ cond (nat_lt (m * 10 + d) (2 ^ 64)) (Some (m * 10 + d)) None
shifted_by m d true e = refl
shifted_by m d false e = sym (told (m * 10 + d) false (grind (arith, nat_tests)))

number_push : (ds : List ℕ) (c : ℕ) → shifted (number_of ds) (digit_value c) ≡ number_of (ds ++ c ∷ [])
number_push ds c =
    let m = digits_value 10 ds in
    ap (λ o. shifted o (digit_value c)) (told m (nat_lt m (2 ^ 64)) refl)
    ∙ (shifted_by m (digit_value c) (nat_lt m (2 ^ 64)) refl ∙ ap (λ n. cond (nat_lt n (2 ^ 64)) (Some n) None) (sym (digits_value_push 10 ds c)))

-- this value, of the digits so far, and this rest
pub record Counted (value : Option ℕ) (text left : List ℕ) : Type 0 where
  pub digits : List ℕ
  pub fronted : front is_digit (chars text) ≡ digits ++ front is_digit (chars left)
  pub rested : behind is_digit (chars text) ≡ behind is_digit (chars left)
  pub valued : value ≡ number_of digits
  pub ends : Follows left text

pub counted_none : (text : List ℕ) → Counted (Some 0) text text
counted_none text = record { digits = []; fronted = refl; rested = refl; valued = refl; ends = itself text }

front_passed : (c : ℕ) (b : Bool) (cs : List ℕ) → b ≡ true → cond b (c ∷ front is_digit cs) [] ≡ c ∷ front is_digit cs
front_passed c b cs e = ap (λ x. cond x (c ∷ front is_digit cs) []) e

behind_passed : (c : ℕ) (b : Bool) (cs : List ℕ) → b ≡ true → cond b (behind is_digit cs) (c ∷ cs) ≡ behind is_digit cs
behind_passed c b cs e = ap (λ x. cond x (behind is_digit cs) (c ∷ cs)) e

pub counted_more : (value : Option ℕ) (text left rest : List ℕ) (digit : ℕ) → Counted value text left → BeginsWithDigit left digit rest → Counted (shifted value digit) text rest
counted_more value text left rest digit k b =
    let c = b.0 in
    let cut = b.2 in
    let here : front is_digit (chars left) ≡ c ∷ front is_digit (chars rest) = ap (front is_digit) cut.seen ∙ front_passed c (is_digit c) (chars rest) cut.passed in
    let past : behind is_digit (chars left) ≡ behind is_digit (chars rest) = ap (behind is_digit) cut.seen ∙ behind_passed c (is_digit c) (chars rest) cut.passed in
    record {
      digits = k.digits ++ c ∷ [];
      fronted = k.fronted ∙ (ap (λ f. k.digits ++ f) here ∙ sym (append_assoc k.digits (c ∷ []) (front is_digit (chars rest))));
      rested = k.rested ∙ past;
      valued = ap (λ v. shifted v digit) k.valued ∙ (ap (shifted (number_of k.digits)) (sym b.1) ∙ number_push k.digits c);
      ends = onward rest left text (record { front = _; whole = cut.read }) k.ends;
    }

pub counted_all : (value : Option ℕ) (text left : List ℕ) → Counted value text left → front is_digit (chars left) ≡ [] → value ≡ number_of (front is_digit (chars text))
counted_all value text left k e = k.valued ∙ ap number_of (sym (k.fronted ∙ (ap (λ f. k.digits ++ f) e ∙ append-nil k.digits)))
