-- The names of variables: each is a name, and no two are the same.
use Rattle.std.proofs.Common.{◌≡◌, ℕ, zero, suc, ◌-◌, ◌^◌, ◌<◌, ◌≤◌, Bool, true, false, ◌==◌, ◌&&◌, ◌||◌, nat_lt, List, [], ◌∷◌, ◌++◌, length, get_or, decimal, Some, None, position, refl, sym, ap, ◌∙◌, inl, inr, arith}
use Rattle.std.specs.List.{list_all, position_or_len}
use Rattle.std.specs.Char.{is_ascii_alphabetic, is_ascii_alphanumeric}
use Rattle.std.specs.Str.{bytes_eq, IsAscii}
use Rattle.std.proofs.lemmas.Fmt.{decimal_is_IsNumeral, decimal_injective, IsAscii-decimal}
use Rattle.std.proofs.lemmas.List.{length_push, get_or_push, get_or_append_left}
use Rattle.std.proofs.lemmas.List.Sums.{position_or_len_is}
use Rattle.std.proofs.lemmas.Slice.Eq.{bytes_eq-Decides}
use Rattle.std.proofs.lemmas.Str.{IsUtf8-from_ascii, chars-IsAscii}
use Rattle.std.proofs.lemmas.Str.Ascii.{IsAscii-cons}
use Rattle.std.proofs.lemmas.Bool.{lt-ltb, le-ltb, cond-true, cond-false, false_from_ne_true, cases_lt, cases_order}
use Rattle.std.proofs.lemmas.Bool.Decides.{nat_tests}
use Rattle.unicode_ident.specs.Ident.{is_xid_start, is_xid_continue}
use Rattle.unicode_ident.proofs.IdentLemmas.{is_xid_start-ascii, is_xid_continue-ascii}
use Rattle.dc_base.specs.Identifiers.{is_legal}
use Rattle.cs_token.specs.Words.{is_digit}
use Rattle.cs_written.proofs.Basics.{both_true}
use Rattle.cs_written.proofs.Numerals.{all_digits}
use Rattle.cs_wellformed.specs.Words.{IsName}
use Rattle.ilspy_body.specs.Tree.{name_of}
use Rattle.ilspy_body.specs.Elaborate.{Scope, var_named}

-- a digit continues a word
digit_continues : (c : ℕ) → is_digit c ≡ true → is_xid_continue c ≡ true
digit_continues c h =
    let low : c < 128 = grind (arith, nat_tests, h) in
    let letter : (is_ascii_alphanumeric c || c == 95) ≡ true = grind (arith, nat_tests, h) in
    is_xid_continue-ascii c low ∙ letter

digits_continue : (ds : List ℕ) → list_all is_digit ds ≡ true → list_all is_xid_continue ds ≡ true
digits_continue [] h = refl
digits_continue (c ∷ cs) h =
    let each = both_true (is_digit c) (list_all is_digit cs) h in
    ap (λ b. b && list_all is_xid_continue cs) (digit_continues c each.0) ∙ digits_continue cs each.1

-- a letter begins a word
letter_begins : (c : ℕ) → c < 128 → is_ascii_alphabetic c ≡ true → (b : Bool) → (b || is_xid_start c) ≡ true
letter_begins c low h true = refl
letter_begins c low h false = is_xid_start-ascii c low ∙ h

-- a letter and digits are legal
legal_word : (c : ℕ) (ds : List ℕ) → c < 128 → is_ascii_alphabetic c ≡ true → list_all is_digit ds ≡ true → is_legal (c ∷ ds) ≡ true
legal_word c ds low h digits = ap (λ b. b && list_all is_xid_continue ds) (letter_begins c low h (c == 95)) ∙ digits_continue ds digits

-- a letter and digits are a name
pub letter_digits_name : (c : ℕ) (ds : List ℕ) → c < 128 → is_ascii_alphabetic c ≡ true → IsAscii ds → list_all is_digit ds ≡ true → IsName (c ∷ ds)
letter_digits_name c ds low l ascii digits =
    let all : IsAscii (c ∷ ds) = IsAscii-cons c ds low ascii in
    (IsUtf8-from_ascii (c ∷ ds) all, ap is_legal (chars-IsAscii (c ∷ ds) all) ∙ legal_word c ds low l digits)

letter_number_name : (c n : ℕ) → c < 128 → is_ascii_alphabetic c ≡ true → n < 2 ^ 64 → IsName (c ∷ decimal n)
letter_number_name c n low l h = letter_digits_name c (decimal n) low l (IsAscii-decimal n h) (all_digits (decimal n) (decimal_is_IsNumeral n h).0.1)

-- the name of a parameter
name_of_param : (v : ℕ) → v < 4 → name_of v ≡ 97 ∷ decimal v
name_of_param v h = cond-true (nat_lt v 4) (97 ∷ decimal v) (118 ∷ decimal (v - 4)) (lt-ltb v 4 h)

-- the name of any other variable
name_of_other : (v : ℕ) → 4 ≤ v → name_of v ≡ 118 ∷ decimal (v - 4)
name_of_other v h = cond-false (nat_lt v 4) (97 ∷ decimal v) (118 ∷ decimal (v - 4)) (le-ltb v 4 h)

-- a variable's name is a name
pub name_of_is_name : (v : ℕ) → v < 2 ^ 64 → IsName (name_of v)
name_of_is_name v h =
    elim (cases_lt v 4) [
      | inl low ↦ rw (name_of_param v low) (letter_number_name 97 v (omega arith) refl h)
      | inr high ↦ rw (name_of_other v high) (letter_number_name 118 (v - 4) (omega arith) refl (omega arith))
    ]

-- a letter and a number tell both
same_letter_number : (c d m n : ℕ) → m < 2 ^ 64 → n < 2 ^ 64 → c ∷ decimal m ≡ d ∷ decimal n → (c ≡ d) × (m ≡ n)
same_letter_number c d m n h k e =
    let tail : decimal m ≡ decimal n = cc in
    (cc, decimal_injective m n h k tail)

-- different variables have different names
pub name_of_injective : (v w : ℕ) → v < 2 ^ 64 → w < 2 ^ 64 → name_of v ≡ name_of w → v ≡ w
name_of_injective v w h k e =
    elim (cases_lt v 4) [
      | inl a ↦ elim (cases_lt w 4) [
        | inl b ↦ (same_letter_number 97 97 v w h k (sym (name_of_param v a) ∙ e ∙ name_of_param w b)).1
        | inr b ↦ absurd (omega (arith, (same_letter_number 97 118 v (w - 4) h (omega arith) (sym (name_of_param v a) ∙ e ∙ name_of_other w b)).0))
      ]
      | inr a ↦ elim (cases_lt w 4) [
        | inl b ↦ absurd (omega (arith, (same_letter_number 118 97 (v - 4) w (omega arith) k (sym (name_of_other v a) ∙ e ∙ name_of_param w b)).0))
        | inr b ↦ omega (arith, (same_letter_number 118 118 (v - 4) (w - 4) (omega arith) (omega arith) (sym (name_of_other v a) ∙ e ∙ name_of_other w b)).1)
      ]
    ]

-- the test tells the names of different variables apart
names_differ : (v w : ℕ) → v < 2 ^ 64 → w < 2 ^ 64 → (v ≡ w → ⊥) → bytes_eq (name_of v) (name_of w) ≡ false
names_differ v w h k d = false_from_ne_true (bytes_eq (name_of v) (name_of w)) (λ e. d (name_of_injective v w h k ((bytes_eq-Decides (name_of v) (name_of w)).0 e)))

-- and finds each the same as itself
same_name : (v : List ℕ) → bytes_eq v v ≡ true
same_name v = (bytes_eq-Decides v v).1 refl

-- the names of the first variables
abbrev pub names : ℕ → Scope
names zero = []
names (suc n) = names n ++ name_of n ∷ []

-- so many they are
pub length-names : (n : ℕ) → length (names n) ≡ n
length-names zero = refl
length-names (suc n) = omega (arith, length_push (names n) (name_of n), length-names n)

-- each stands at its number
names_at : (n k : ℕ) (d : List ℕ) → k < n → get_or (names n) k d ≡ name_of k
names_at zero k d h = absurd (omega arith)
names_at (suc n) k d h =
    elim (cases_order k n) [
      | inl e ↦ get_or_push (names n) (name_of n) d k (length-names n ∙ sym e) ∙ ap name_of (sym e)
      | inr o ↦ elim o [
        | inl b ↦ get_or_append_left (names n) (name_of n ∷ []) d k (omega (arith, length-names n)) ∙ names_at n k d b
        | inr b ↦ absurd (omega arith)
      ]
    ]

-- a place before the end is where the test first passes
position_at : {X : Type 0} (p : X → Bool) (xs : List X) (i : ℕ) (d : X) → i < length xs → ((k : ℕ) → k < i → p (get_or xs k d) ≡ false) → p (get_or xs i d) ≡ true → position p xs ≡ Some i
position_at p xs i d h before at =
    let here : position_or_len p xs ≡ i = position_or_len_is p xs i d (omega arith) before (λ _. at) in
    rw here (cond-true (nat_lt i (length xs)) (Some i) None (lt-ltb i (length xs) h))

-- the test passes nowhere
position_nowhere : {X : Type 0} (p : X → Bool) (xs : List X) (d : X) → ((k : ℕ) → k < length xs → p (get_or xs k d) ≡ false) → position p xs ≡ None
position_nowhere p xs d each =
    let here : position_or_len p xs ≡ length xs = position_or_len_is p xs (length xs) d (omega arith) each (λ h. absurd (omega arith)) in
    rw here (cond-false (nat_lt (length xs) (length xs)) (Some (length xs)) None (le-ltb (length xs) (length xs) (omega arith)))

-- a name in scope is the name of its variable
pub var_named_of : (next v : ℕ) → next < 2 ^ 64 → v < next → var_named (names next) (name_of v) ≡ Some v
var_named_of next v h k =
    position_at (bytes_eq (name_of v)) (names next) v [] (omega (arith, length-names next))
    (λ j b. ap (bytes_eq (name_of v)) (names_at next j [] (omega arith)) ∙ names_differ v j (omega arith) (omega arith) (λ e. omega arith))
    (ap (bytes_eq (name_of v)) (names_at next v [] k) ∙ same_name (name_of v))

-- the next variable's name is not yet in scope
pub next_is_new : (next : ℕ) → next < 2 ^ 64 → var_named (names next) (name_of next) ≡ None
next_is_new next h =
    position_nowhere (bytes_eq (name_of next)) (names next) []
    (λ j b. let c : j < next = omega (arith, length-names next) in ap (bytes_eq (name_of next)) (names_at next j [] c) ∙ names_differ next j h (omega arith) (λ e. omega arith))
