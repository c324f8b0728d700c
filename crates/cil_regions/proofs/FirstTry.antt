-- The first clause of a try is the first catch over its range.
use Rattle.std.proofs.Common.{◌≡◌, ℕ, suc, ◌+◌, ◌<◌, Bool, true, false, ◌&&◌, ◌==◌, not, cond, Option, None, Some, is_some, unwrap_or, List, [], ◌∷◌, ◌++◌, length, take, drop, get_or, position, refl, sym, ◌∙◌, ap, arith}
use Rattle.std.specs.List.{position_from}
use Rattle.std.proofs.Math.Seq.{drop-cons}
use Rattle.std.proofs.lemmas.List.{take_more, take-append-drop, length-take-le}
use Rattle.std.proofs.lemmas.Iterator.Adapters.{position_from-zero}
use Rattle.std.proofs.lemmas.Bool.Decides.{nat_tests}
use Rattle.cil_body.specs.declared.body.Clause.{Clause}
use Rattle.cil_regions.specs.Region.{is_catch, shares_try, first_of}
use Rattle.cil_regions.specs.Tries.{Range, range_of, same_range}

-- the clause is a catch over this range
abbrev pub has_range : Range → Clause → Bool
has_range q c = is_catch c.kind && same_range (range_of c) q

-- the first of two places that there is
abbrev pub either : Option ℕ → Option ℕ → Option ℕ
either (Some j) o = Some j
either None o = o

from_cons : {X : Type 0} (p : X → Bool) (n : ℕ) (x : X) (xs ys : List X) (b : Bool) → position_from p (n + 1) (xs ++ ys) ≡ either (position_from p (n + 1) xs) (position_from p (n + 1 + length xs) ys) → cond b (Some n) (position_from p (n + 1) (xs ++ ys)) ≡ either (cond b (Some n) (position_from p (n + 1) xs)) (position_from p (n + length (x ∷ xs)) ys)
from_cons p n x xs ys true h = refl
from_cons p n x xs ys false h =
    let e : n + 1 + length xs ≡ n + length (x ∷ xs) = omega arith in
    h ∙ ap (λ (k : ℕ). either (position_from p (n + 1) xs) (position_from p k ys)) e

from_append : {X : Type 0} (p : X → Bool) (n : ℕ) (xs ys : List X) → position_from p n (xs ++ ys) ≡ either (position_from p n xs) (position_from p (n + length xs) ys)
from_append p n [] ys = let e : n ≡ n + 0 = omega arith in ap (λ (k : ℕ). position_from p k ys) e
from_append p n (x ∷ xs) ys = from_cons p n x xs ys (p x) (from_append p (n + 1) xs ys)

from_none : {X : Type 0} (p : X → Bool) → ((x : X) → p x ≡ false) → (n : ℕ) (xs : List X) → position_from p n xs ≡ None
from_none p h n [] = refl
from_none p h n (x ∷ xs) =
    ap (λ (b : Bool). cond b (Some n) (position_from p (n + 1) xs)) (h x) ∙ from_none p h (n + 1) xs

from_congr : {X : Type 0} (p q : X → Bool) → ((x : X) → p x ≡ q x) → (n : ℕ) (xs : List X) → position_from p n xs ≡ position_from q n xs
from_congr p q h n [] = refl
from_congr p q h n (x ∷ xs) =
    ap (λ (b : Bool). cond b (Some n) (position_from p (n + 1) xs)) (h x)
    ∙ ap (λ (o : Option ℕ). cond (q x) (Some n) o) (from_congr p q h (n + 1) xs)

-- among a list and one more item
pub position_push : {X : Type 0} (p : X → Bool) (xs : List X) (y : X) → position p (xs ++ y ∷ []) ≡ either (position p xs) (cond (p y) (Some (length xs)) None)
position_push p xs y =
    let e : 0 + length xs ≡ length xs = omega arith in
    position_from-zero p (xs ++ y ∷ []) ∙ from_append p 0 xs (y ∷ [])
    ∙ ap (λ (k : ℕ). either (position_from p 0 xs) (cond (p y) (Some k) None)) e
    ∙ ap (λ (o : Option ℕ). either o (cond (p y) (Some (length xs)) None)) (sym (position_from-zero p xs))

unwrapped : (o r : Option ℕ) (i : ℕ) → unwrap_or (either o (Some i)) i ≡ unwrap_or o i
unwrapped (Some j) r i = refl
unwrapped None r i = refl

-- in a list at whose place i stands an item that passes, the first one is at i or before
pub position_by : {X : Type 0} (p : X → Bool) (xs : List X) (i : ℕ) (d : X) → i < length xs → p (get_or xs i d) ≡ true → unwrap_or (position p xs) i ≡ unwrap_or (position p (take i xs)) i
position_by p xs i d l t =
    let whole : xs ≡ take i xs ++ (get_or xs i d ∷ drop (suc i) xs) =
    sym (take-append-drop i xs) ∙ ap (λ ys. take i xs ++ ys) (drop-cons xs i d l) in
    let long : length (take i xs) ≡ i = length-take-le i xs (omega arith) in
    let apart : position_from p 0 (take i xs ++ (get_or xs i d ∷ drop (suc i) xs)) ≡ either (position_from p 0 (take i xs)) (position_from p (0 + length (take i xs)) (get_or xs i d ∷ drop (suc i) xs)) =
    from_append p 0 (take i xs) (get_or xs i d ∷ drop (suc i) xs) in
    let here : position_from p (0 + length (take i xs)) (get_or xs i d ∷ drop (suc i) xs) ≡ Some (0 + length (take i xs)) =
    ap (λ (b : Bool). cond b (Some (0 + length (take i xs))) (position_from p (0 + length (take i xs) + 1) (drop (suc i) xs))) t in
    let e : 0 + length (take i xs) ≡ i = omega (arith, long) in
    let all : position p xs ≡ either (position p (take i xs)) (Some i) =
    position_from-zero p xs ∙ ap (λ ys. position_from p 0 ys) whole ∙ apart
    ∙ ap (λ (o : Option ℕ). either (position_from p 0 (take i xs)) o) (here ∙ ap Some e)
    ∙ ap (λ (o : Option ℕ). either o (Some i)) (sym (position_from-zero p (take i xs))) in
    ap (λ (o : Option ℕ). unwrap_or o i) all ∙ unwrapped (position p (take i xs)) None i

same_number : (a b : ℕ) → (a == b) ≡ (b == a)
same_number a b = grind (arith, nat_tests)

grouped : (a b c : Bool) → (true && a && b && c) ≡ (a && (b && c))
grouped true b c = refl
grouped false b c = refl

turned : (c d : Clause) (b : Bool) → is_catch c.kind ≡ true → shares_try c d ≡ has_range (range_of c) d
turned c d b h =
    let first : shares_try c d ≡ (true && is_catch d.kind && (c.try_at == d.try_at) && (c.try_len == d.try_len)) =
    ap (λ (x : Bool). x && is_catch d.kind && (c.try_at == d.try_at) && (c.try_len == d.try_len)) h in
    let second = ap (λ (x : Bool). true && is_catch d.kind && x && (c.try_len == d.try_len)) (same_number c.try_at d.try_at) in
    let third = ap (λ (x : Bool). true && is_catch d.kind && (d.try_at == c.try_at) && x) (same_number c.try_len d.try_len) in
    first ∙ second ∙ third ∙ grouped (is_catch d.kind) (d.try_at == c.try_at) (d.try_len == c.try_len)

itself : (c : Clause) → is_catch c.kind ≡ true → has_range (range_of c) c ≡ true
itself c h = grind (arith, nat_tests)

first_catch : (clauses : List Clause) (i : ℕ) (d : Clause) → i < length clauses → is_catch (get_or clauses i d).kind ≡ true → first_of clauses i (get_or clauses i d) ≡ unwrap_or (position (has_range (range_of (get_or clauses i d))) (take i clauses)) i
first_catch clauses i d l h =
    let c : Clause = get_or clauses i d in
    let same : position (shares_try c) clauses ≡ position (has_range (range_of c)) clauses =
    position_from-zero (shares_try c) clauses
    ∙ from_congr (shares_try c) (has_range (range_of c)) (λ x. turned c x true h) 0 clauses
    ∙ sym (position_from-zero (has_range (range_of c)) clauses) in
    ap (λ (o : Option ℕ). unwrap_or o i) same ∙ position_by (has_range (range_of c)) clauses i d l (itself c h)

first_other : (clauses : List Clause) (i : ℕ) (c : Clause) → is_catch c.kind ≡ false → first_of clauses i c ≡ i
first_other clauses i c h =
    let none : position (shares_try c) clauses ≡ None =
    position_from-zero (shares_try c) clauses
    ∙ from_none (shares_try c) (λ x. ap (λ (b : Bool). b && is_catch x.kind && (c.try_at == x.try_at) && (c.try_len == x.try_len)) h) 0 clauses in
    ap (λ (o : Option ℕ). unwrap_or o i) none

by_kind : (b : Bool) (first found i : ℕ) → (b ≡ true → first ≡ found) → (b ≡ false → first ≡ i) → first ≡ cond b found i
by_kind true first found i f g = f refl
by_kind false first found i f g = g refl

-- the number of the first clause is that of an earlier catch over the range, or its own
pub first_is : (clauses : List Clause) (i : ℕ) (d : Clause) → i < length clauses → first_of clauses i (get_or clauses i d) ≡ cond (is_catch (get_or clauses i d).kind) (unwrap_or (position (has_range (range_of (get_or clauses i d))) (take i clauses)) i) i
first_is clauses i d l = by_kind (is_catch (get_or clauses i d).kind) _ _ i (first_catch clauses i d l) (first_other clauses i (get_or clauses i d))

-- what is known behind one more clause
known_by : (o : Option ℕ) (a b : Bool) (i : ℕ) → (cond (a && b && not (is_some o)) (Some i) o) ≡ either o (cond (a && b) (Some i) None)
known_by (Some j) true true i = refl
known_by (Some j) true false i = refl
known_by (Some j) false b i = refl
known_by None true true i = refl
known_by None true false i = refl
known_by None false b i = refl

pub known_more : (clauses : List Clause) (i : ℕ) (d : Clause) (q : Range) (o : Option ℕ) → i < length clauses → o ≡ position (has_range q) (take i clauses) → cond (is_catch (get_or clauses i d).kind && same_range (range_of (get_or clauses i d)) q && not (is_some o)) (Some i) o ≡ position (has_range q) (take (i + 1) clauses)
known_more clauses i d q o l h =
    let c : Clause = get_or clauses i d in
    let long : length (take i clauses) ≡ i = length-take-le i clauses (omega arith) in
    let more : position (has_range q) (take (i + 1) clauses) ≡ either (position (has_range q) (take i clauses)) (cond (has_range q c) (Some i) None) =
    ap (λ xs. position (has_range q) xs) (take_more clauses i d l) ∙ position_push (has_range q) (take i clauses) c
    ∙ ap (λ (k : ℕ). either (position (has_range q) (take i clauses)) (cond (has_range q c) (Some k) None)) long in
    known_by o (is_catch c.kind) (same_range (range_of c) q) i
    ∙ ap (λ (x : Option ℕ). either x (cond (has_range q c) (Some i) None)) h ∙ sym more
