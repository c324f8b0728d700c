-- Lines and columns while a text is gone through.
use Rattle.std.proofs.Common.{◌≡◌, ℕ, ◌+◌, ◌-◌, ◌^◌, ◌<◌, ◌≤◌, Bool, true, false, cond, eqb, List, [], ◌∷◌, ◌++◌, length, take, refl, sym, ◌∙◌, ap, length-append, arith}
use Rattle.std.specs.Prelude.{IsUtf8, IsTrue, ◌↔◌, ◌==◌}
use Rattle.std.specs.Str.{chars}
use Rattle.std.proofs.Math.Utf8.{encodes}
use Rattle.std.proofs.Math.Seq.{take-append_seam}
use Rattle.std.proofs.lemmas.Bool.Decides.{nat_tests}
use Rattle.std.proofs.lemmas.List.{append_assoc}
use Rattle.std.proofs.lemmas.Str.{chars-append, encodes-chars, length-le-encodes, IsUtf8-append, chars-nil}
use Rattle.cs_token.specs.Cuts.{place_after, place_of}
use Rattle.cs_lex.specs.Places.{next_place, HasRoom, At}

room_by : (b : Bool) (bound line column n m : ℕ) → HasRoom bound line column n → m < n
    → HasRoom bound (cond {A = ℕ × ℕ} b (line + 1, 1) (line, column + 1)).0 (cond {A = ℕ × ℕ} b (line + 1, 1) (line, column + 1)).1 m
room_by true bound line column n m r l = let a = r.line_fits in let b = r.new_fits in record { line_fits = omega arith; column_fits = omega arith; new_fits = omega arith }
room_by false bound line column n m r l =
    let a = r.line_fits in let b = r.column_fits in let d = r.new_fits in record { line_fits = omega arith; column_fits = omega arith; new_fits = omega arith }

-- one character takes one of the room
pub room_step : (bound line column n m c : ℕ) → HasRoom bound line column n → m < n → HasRoom bound (next_place line column c).0 (next_place line column c).1 m
room_step bound line column n m c r l = room_by (eqb c 10) bound line column n m r l

pub room_less : (bound line column n m : ℕ) → HasRoom bound line column n → m ≤ n → HasRoom bound line column m
room_less bound line column n m r l = let a = r.line_fits in let b = r.column_fits in let d = r.new_fits in record { line_fits = omega arith; column_fits = omega arith; new_fits = omega arith }

room_after : (bound : ℕ) (cs : List ℕ) (p : ℕ × ℕ) (n : ℕ) → HasRoom bound p.0 p.1 (length cs + n) → HasRoom bound (place_after p cs).0 (place_after p cs).1 n
room_after bound [] p n r = room_less bound p.0 p.1 (0 + n) n r (omega arith)
room_after bound (c ∷ cs) p n r = room_after bound cs (next_place p.0 p.1 c) n (room_step bound p.0 p.1 (length (c ∷ cs) + n) (length cs + n) c r (omega arith))

place_after-append : (p : ℕ × ℕ) (xs ys : List ℕ) → place_after p (xs ++ ys) ≡ place_after (place_after p xs) ys
place_after-append p [] ys = refl
place_after-append p (x ∷ xs) ys = place_after-append (next_place p.0 p.1 x) xs ys

take_front : (xs ys : List ℕ) → take (length (xs ++ ys) - length ys) (xs ++ ys) ≡ xs
take_front xs ys =
    let size : length (xs ++ ys) - length ys ≡ length xs = omega (arith, length-append xs ys) in
    rw size (take-append_seam xs ys)

few_chars : (bs : List ℕ) → IsUtf8 bs → length (chars bs) ≤ length bs
few_chars bs u =
    let same = ap length (encodes-chars bs u) in
    let le = length-le-encodes (chars bs) in
    omega arith

room_behind : (bound : ℕ) (p : ℕ × ℕ) (skipped left : List ℕ) → IsUtf8 skipped → HasRoom bound p.0 p.1 (length (skipped ++ left))
    → HasRoom bound (place_after p (chars skipped)).0 (place_after p (chars skipped)).1 (length left)
room_behind bound p skipped left u r =
    let few = few_chars skipped u in
    let size = length-append skipped left in
    room_after bound (chars skipped) p (length left) (room_less bound p.0 p.1 (length (skipped ++ left)) (length (chars skipped) + length left) r (omega arith))

pub at_start : (whole skipped left : List ℕ) (place : ℕ × ℕ) → length whole + 1 < 2 ^ 32 → IsUtf8 skipped → whole ≡ skipped ++ left → place ≡ place_after (1, 1) (chars skipped) → At whole left place
at_start whole skipped left place small u w e =
    let size = ap length w in
    let begin : HasRoom (2 ^ 32) 1 1 (length (skipped ++ left)) = record { line_fits = omega arith; column_fits = omega arith; new_fits = omega arith } in
    record { front = skipped; read = w; utf8 = u; placed = e; room = rw e (room_behind (2 ^ 32) (1, 1) skipped left u begin) }

pub at_more : (whole left skipped next : List ℕ) (place more : ℕ × ℕ) → At whole left place → IsUtf8 skipped → left ≡ skipped ++ next → more ≡ place_after place (chars skipped) → At whole next more
at_more whole left skipped next place more a u w e =
    let room = a.room in
    let here : HasRoom (2 ^ 32) place.0 place.1 (length (skipped ++ next)) = room_less (2 ^ 32) place.0 place.1 (length left) (length (skipped ++ next)) room (let size = ap length w in omega arith) in
    let all : place_after (1, 1) (chars (a.front ++ skipped)) ≡ place_after place (chars skipped) =
    ap (place_after (1, 1)) (chars-append a.front skipped a.utf8) ∙ (place_after-append (1, 1) (chars a.front) (chars skipped) ∙ ap (λ p. place_after p (chars skipped)) (sym a.placed)) in
    record {
      front = a.front ++ skipped;
      read = a.read ∙ (ap (λ l. a.front ++ l) w ∙ sym (append_assoc a.front skipped next));
      utf8 = IsUtf8-append a.front skipped a.utf8 u;
      placed = e ∙ sym all;
      room = rw e (room_behind (2 ^ 32) place skipped next u here);
    }

-- it is the place that the definition gives
pub place_at : (whole left : List ℕ) (place : ℕ × ℕ) → At whole left place → place ≡ place_of (chars whole) (chars left)
place_at whole left place a =
    let cut : chars whole ≡ chars a.front ++ chars left = ap chars a.read ∙ chars-append a.front left a.utf8 in
    a.placed ∙ sym (ap (λ w. place_of w (chars left)) cut ∙ ap (place_after (1, 1)) (take_front (chars a.front) (chars left)))

pub no_chars : (left : List ℕ) → IsUtf8 left → chars left ≡ [] → left ≡ []
no_chars left u e = sym (encodes-chars left u) ∙ ap encodes e

not_true : (b : Bool) → b ≡ true → b ≡ false → ⊥
not_true b t e = cc

not_nil : (x : ℕ) (xs : List ℕ) → x ∷ xs ≡ [] → ⊥
not_nil x xs e = cc

pub same_place : (p q : ℕ × ℕ) → p.0 ≡ q.0 → p.1 ≡ q.1 → p ≡ q
same_place p q a b = ap (λ (l : ℕ). let r : ℕ × ℕ = (l, p.1) in r) a ∙ ap (λ (c : ℕ). let r : ℕ × ℕ = (q.0, c) in r) b

pub empty_text : (left : List ℕ) (b : Bool) → IsUtf8 left → b ≡ (length left == 0) → IsTrue b ↔ (chars left ≡ [])
empty_text [] b u e = (λ _. chars-nil, λ _. e)
empty_text (x ∷ xs) b u e =
    let no : (length (x ∷ xs) == 0) ≡ false = grind (arith, nat_tests) in
    (λ t. absurd (not_true b t (e ∙ no)), λ n. absurd (not_nil x xs (no_chars (x ∷ xs) u n)))
