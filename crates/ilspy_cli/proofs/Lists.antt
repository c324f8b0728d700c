-- Lists that a loop has walked so far.
use Rattle.std.proofs.Common.{◌≡◌, ℕ, zero, suc, ◌+◌, ◌<◌, List, [], ◌∷◌, ◌++◌, length, map, take, get_or, Option, Some, None, MatchOption, refl, sym, ap, ap₂, ◌∙◌, arith}
use Rattle.std.specs.Prelude.{fold}
use Rattle.std.proofs.lemmas.List.{take_more}
use Rattle.std.proofs.lemmas.List.Sums.{fold-append}

pub map_append : {X Y : Type 0} (f : X → Y) (xs ys : List X) → map f (xs ++ ys) ≡ map f xs ++ map f ys
map_append f [] ys = refl
map_append f (x ∷ xs) ys = ap (λ zs. f x ∷ zs) (map_append f xs ys)

-- two functions one after the other
pub map_both : {X Y Z : Type 0} (f : X → Y) (g : Y → Z) (xs : List X) → map g (map f xs) ≡ map (λ x. g (f x)) xs
map_both f g [] = refl
map_both f g (x ∷ xs) = ap (λ zs. g (f x) ∷ zs) (map_both f g xs)

-- one more item
pub map_more : {X Y : Type 0} (f : X → Y) (xs : List X) (i : ℕ) (d : X) → i < length xs → map f (take (i + 1) xs) ≡ map f (take i xs) ++ f (get_or xs i d) ∷ []
map_more f xs i d lt = ap (map f) (take_more xs i d lt) ∙ map_append f (take i xs) (get_or xs i d ∷ [])

fold_more : {X Y Z : Type 0} (f : Z → Y → Z) (z : Z) (g : X → Y) (xs : List X) (i : ℕ) (d : X) → i < length xs
    → fold f z (map g (take (i + 1) xs)) ≡ f (fold f z (map g (take i xs))) (g (get_or xs i d))
fold_more f z g xs i d lt = ap (fold f z) (map_more g xs i d lt) ∙ fold-append f z (map g (take i xs)) (g (get_or xs i d) ∷ [])

-- one more step
pub fold_step : {X Y Z : Type 0} (f : Z → Y → Z) (z : Z) (g : X → Y) (xs : List X) (i : ℕ) (d : X) (a b : Z) → i < length xs
    → a ≡ fold f z (map g (take i xs)) → b ≡ f a (g (get_or xs i d)) → b ≡ fold f z (map g (take (i + 1) xs))
fold_step f z g xs i d a b lt so e = e ∙ ap (λ y. f y (g (get_or xs i d))) so ∙ sym (fold_more f z g xs i d lt)

-- one more name has a value
pub values_more : {N V Y : Type 0} (f : N → Option Y) (g : V → Y) (names : List N) (values : List V) (i : ℕ) (d : N) (v : V) → i < length names
    → map f (take i names) ≡ map Some (map g values) → f (get_or names i d) ≡ Some (g v) → map f (take (i + 1) names) ≡ map Some (map g (values ++ v ∷ []))
values_more f g names values i d v lt so e =
    map_more f names i d lt ∙ ap₂ (λ front last. front ++ last ∷ []) so e ∙ sym (ap (map Some) (map_append g values (v ∷ [])) ∙ map_append Some (map g values) (g v ∷ []))

-- where one name has none, not all have values
pub not_all_found : {N Y : Type 0} (f : N → Option Y) (names : List N) (i : ℕ) (d : N) (values : List Y) → i < length names → f (get_or names i d) ≡ None
    → map f names ≡ map Some values → ⊥
not_all_found f [] i d values lt none e = absurd (omega (arith, lt))
not_all_found f (n ∷ names) i d [] lt none e = cc
not_all_found f (n ∷ names) zero d (v ∷ values) lt none e =
    let head : f n ≡ Some v = cc in
    let same : None ≡ Some v = sym none ∙ head in
    cc
not_all_found f (n ∷ names) (suc i) d (v ∷ values) lt none e =
    let tail : map f names ≡ map Some values = cc in
    not_all_found f names i d values (omega (arith, lt)) none tail

-- facts that follow from one another are found alike
pub match_same : {V Y : Type 0} (f : V → Y) (P Q : Y → Type 0) → ((y : Y) → P y → Q y) → ((y : Y) → Q y → P y) → (o : Option V)
    → MatchOption o ((y : Y) → P y → ⊥) (λ v. P (f v)) → MatchOption o ((y : Y) → Q y → ⊥) (λ v. Q (f v))
match_same f P Q there back None h = λ y q. h y (back y q)
match_same f P Q there back (Some v) h = there (f v) h
