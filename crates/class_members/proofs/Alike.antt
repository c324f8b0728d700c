-- Lists whose items are alike, index by index.
use Rattle.std.proofs.Common.{◌≡◌, ℕ, zero, suc, ◌+◌, ◌<◌, ◌≤◌, Some, None, List, [], ◌∷◌, ◌++◌, length, map, get_or, refl, sym, ◌∙◌, ap, inl, inr, arith}
use Rattle.std.specs.List.{slice_get}
use Rattle.std.proofs.lemmas.List.{length-append}
use Rattle.std.proofs.lemmas.Bool.{cases_lt}
use Rattle.std.proofs.lemmas.Option.{slice_get-get_or, slice_get_within, get_or_from_slice_get}

-- the first so many items of two lists are alike
pub record AreAlikeBefore {X Y : Type 0} (f : X → Y) (a b : List X) (i : ℕ) : Type 0 where
  pub alike : (k : ℕ) (x y : X) → k < i → slice_get a k ≡ Some x → slice_get b k ≡ Some y → f x ≡ f y

maps_same : {X Y : Type 0} (f : X → Y) (a b : List X) → length a ≡ length b → ((k : ℕ) (x y : X) → slice_get a k ≡ Some x → slice_get b k ≡ Some y → f x ≡ f y) → map f a ≡ map f b
maps_same f [] [] long alike = refl
maps_same f [] (y ∷ b) long alike = absurd (omega (arith, long))
maps_same f (x ∷ a) [] long alike = absurd (omega (arith, long))
maps_same f (x ∷ a) (y ∷ b) long alike =
    let head : f x ≡ f y = alike 0 x y refl refl in
    let tail = maps_same f a b (omega (arith, long)) (λ k u v p q. alike (suc k) u v p q) in
    cc

lists_same : {X : Type 0} (a b : List X) → length a ≡ length b → ((k : ℕ) (x y : X) → slice_get a k ≡ Some x → slice_get b k ≡ Some y → x ≡ y) → a ≡ b
lists_same [] [] long alike = refl
lists_same [] (y ∷ b) long alike = absurd (omega (arith, long))
lists_same (x ∷ a) [] long alike = absurd (omega (arith, long))
lists_same (x ∷ a) (y ∷ b) long alike =
    let head : x ≡ y = alike 0 x y refl refl in
    let tail = lists_same a b (omega (arith, long)) (λ k u v p q. alike (suc k) u v p q) in
    cc

pub none_alike_yet : {X Y : Type 0} (f : X → Y) (a b : List X) → AreAlikeBefore f a b 0
none_alike_yet f a b = record { alike = λ k x y lt _ _. absurd (omega (arith, lt)) }

pub alike_more : {X Y : Type 0} (f : X → Y) (a b : List X) (i : ℕ) (d e : X) → AreAlikeBefore f a b i → f (get_or a i d) ≡ f (get_or b i e) → AreAlikeBefore f a b (i + 1)
alike_more f a b i d e so same = record {
  alike = λ k x y lt p q. elim (cases_lt k i) [
    | inl less ↦ so.alike k x y less p q
    | inr le ↦
        let at : i ≡ k = omega (arith, lt, le) in
        let here : get_or a i d ≡ x = get_or_from_slice_get a i x d (ap (λ (n : ℕ). slice_get a n) at ∙ p) in
        let there : get_or b i e ≡ y = get_or_from_slice_get b i y e (ap (λ (n : ℕ). slice_get b n) at ∙ q) in
        sym (ap f here) ∙ same ∙ ap f there
  ];
}

pub all_alike : {X Y : Type 0} (f : X → Y) (a b : List X) (i : ℕ) → length a ≡ length b → length a ≤ i → AreAlikeBefore f a b i → map f a ≡ map f b
all_alike f a b i long all so = maps_same f a b long (λ k x y p q. let lt = slice_get_within a k x p in so.alike k x y (omega (arith, lt, all)) p q)

pub all_one : {X : Type 0} (a b : List X) (i : ℕ) → length a ≡ length b → length a ≤ i → AreAlikeBefore (λ (x : X). x) a b i → a ≡ b
all_one a b i long all so = lists_same a b long (λ k x y p q. let lt = slice_get_within a k x p in so.alike k x y (omega (arith, lt, all)) p q)

get_of_map : {X Y : Type 0} (f : X → Y) (a b : List X) (k : ℕ) (x y : X) → map f a ≡ map f b → slice_get a k ≡ Some x → slice_get b k ≡ Some y → f x ≡ f y
get_of_map f [] b k x y e p q = let none : None ≡ Some x = p in absurd cc
get_of_map f (u ∷ a) [] k x y e p q = let none : None ≡ Some y = q in absurd cc
get_of_map f (u ∷ a) (v ∷ b) zero x y e p q =
    let head : f u ≡ f v = cc in
    let here : u ≡ x = cc in
    let there : v ≡ y = cc in
    sym (ap f here) ∙ head ∙ ap f there
get_of_map f (u ∷ a) (v ∷ b) (suc k) x y e p q = let tail : map f a ≡ map f b = cc in get_of_map f a b k x y tail p q

pub alike_at : {X Y : Type 0} (f : X → Y) (a b : List X) (i : ℕ) (d e : X) → map f a ≡ map f b → i < length a → length a ≡ length b → f (get_or a i d) ≡ f (get_or b i e)
alike_at f a b i d e same lt long =
    get_of_map f a b i (get_or a i d) (get_or b i e) same (slice_get-get_or a i d lt) (slice_get-get_or b i e (omega (arith, lt, long)))

pub one_at : {X : Type 0} (a b : List X) (i : ℕ) (d e : X) → a ≡ b → i < length a → length a ≡ length b → get_or a i d ≡ get_or b i e
one_at {X} a b i d e same lt long = alike_at (λ (x : X). x) a b i d e (ap (map (λ (x : X). x)) same) lt long

-- lists with one item behind are equal in front of it
pub same_front : {X : Type 0} (xs ys : List X) (x y : X) → xs ++ (x ∷ []) ≡ ys ++ (y ∷ []) → xs ≡ ys
same_front [] [] x y e = refl
same_front [] (v ∷ ys) x y e = let n = ap length e ∙ ap suc (length-append ys (y ∷ [])) in absurd (omega (arith, n))
same_front (u ∷ xs) [] x y e = let n = sym (ap suc (length-append xs (x ∷ []))) ∙ ap length e in absurd (omega (arith, n))
same_front (u ∷ xs) (v ∷ ys) x y e =
    let head : u ≡ v = cc in
    let tail : xs ++ (x ∷ []) ≡ ys ++ (y ∷ []) = cc in
    let rest = same_front xs ys x y tail in
    cc
