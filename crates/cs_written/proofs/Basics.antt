-- Tests, fronts of texts, and what computing shows of each number below a bound.
use Rattle.std.proofs.Common.{◌≡◌, ℕ, zero, suc, ◌+◌, ◌<◌, ◌≤◌, ◌⊎◌, inl, inr, Bool, true, false, cond, List, [], ◌∷◌, ◌++◌, refl, ◌∙◌, ap, subst, arith}
use Rattle.std.specs.Prelude.{not, ◌&&◌, ◌||◌, nat_lt, position, Some, None, length}
use Rattle.std.specs.List.{list_any, list_all, prefix_len}
use Rattle.std.proofs.lemmas.Bool.{cases_lt}
use Rattle.std.proofs.lemmas.Bool.Decides.{nat_tests}
use Rattle.cs_token.specs.Words.{front, behind}

pub taken : {A : Type 0} (b : Bool) (x y : A) → b ≡ true → cond b x y ≡ x
taken true x y e = refl
taken false x y e = absurd (cc)

pub skipped : {A : Type 0} (b : Bool) (x y : A) → b ≡ false → cond b x y ≡ y
skipped true x y e = absurd (cc)
skipped false x y e = refl

-- a choice between texts, by cases
pub split : (P : List ℕ → Type 0) (b : Bool) (x y : List ℕ) → (b ≡ true → P x) → (b ≡ false → P y) → P (cond b x y)
split P true x y h k = h refl
split P false x y h k = k refl

pub both_true : (a b : Bool) → (a && b) ≡ true → (a ≡ true) × (b ≡ true)
both_true true b e = (refl, e)
both_true false b e = absurd (cc)

pub and_false : (a b : Bool) → b ≡ false → (a && b) ≡ false
and_false true b e = e
and_false false b e = refl

pub or_true : (a b : Bool) → (a || b) ≡ true → a ≡ false → b ≡ true
or_true true b e f = absurd (cc)
or_true false b e f = e

pub or_false : (a b : Bool) → (a || b) ≡ false → (a ≡ false) × (b ≡ false)
or_false true b e = absurd (cc)
or_false false b e = (refl, e)

pub not_true : (a : Bool) → not a ≡ true → a ≡ false
not_true true e = absurd (cc)
not_true false e = refl

pub not_false : (a : Bool) → not a ≡ false → a ≡ true
not_false true e = refl
not_false false e = absurd (cc)

-- a test that holds of each number below a bound
abbrev pub all_below : (ℕ → Bool) → ℕ → Bool
all_below test zero = true
all_below test (suc n) = test n && all_below test n

below_by : (test : ℕ → Bool) (n k : ℕ) → test n ≡ true → (k < n → test k ≡ true) → (k < n) ⊎ (n ≤ k) → k < suc n → test k ≡ true
below_by test n k here under (inl l) h = under l
below_by test n k here under (inr l) h =
    let same : n ≡ k = omega arith in
    subst (λ (m : ℕ). test m ≡ true) same here

pub below : (test : ℕ → Bool) (n k : ℕ) → all_below test n ≡ true → k < n → test k ≡ true
below test zero k e h = absurd (omega arith)
below test (suc n) k e h =
    let each = both_true (test n) (all_below test n) e in
    below_by test n k each.0 (λ l. below test n k each.1 l) (cases_lt k n) h

-- a text's front of characters that pass a test, and what doesn't begin with one
abbrev pub stops : (ℕ → Bool) → List ℕ → Bool
stops passes [] = true
stops passes (c ∷ rest) = not (passes c)

pub front_all : (passes : ℕ → Bool) (cs rest : List ℕ) → list_all passes cs ≡ true → stops passes rest ≡ true → front passes (cs ++ rest) ≡ cs
front_all passes [] [] h s = refl
front_all passes [] (c ∷ rest) h s = skipped (passes c) _ _ (not_true (passes c) s)
front_all passes (c ∷ cs) rest h s =
    let each = both_true (passes c) (list_all passes cs) h in
    taken (passes c) _ _ each.0 ∙ ap (λ x. c ∷ x) (front_all passes cs rest each.1 s)

pub behind_all : (passes : ℕ → Bool) (cs rest : List ℕ) → list_all passes cs ≡ true → stops passes rest ≡ true → behind passes (cs ++ rest) ≡ rest
behind_all passes [] [] h s = refl
behind_all passes [] (c ∷ rest) h s = skipped (passes c) _ _ (not_true (passes c) s)
behind_all passes (c ∷ cs) rest h s =
    let each = both_true (passes c) (list_all passes cs) h in
    taken (passes c) _ _ each.0 ∙ behind_all passes cs rest each.1 s

-- where no element passes there is no position, and where one does there is one
none_by : (b : Bool) (n m : ℕ) → b ≡ false → n ≡ m → cond (not b) (1 + n) 0 ≡ suc m
none_by true n m e h = absurd (cc)
none_by false n m e h = omega arith

prefix_none : {X : Type 0} (test : X → Bool) (xs : List X) → list_any test xs ≡ false → prefix_len (λ x. not (test x)) xs ≡ length xs
prefix_none test [] e = refl
prefix_none test (x ∷ xs) e =
    let each = or_false (test x) (list_any test xs) e in
    none_by (test x) (prefix_len (λ y. not (test y)) xs) (length xs) each.0 (prefix_none test xs each.1)

some_by : (b : Bool) (n m : ℕ) → (b ≡ false → n < m) → cond (not b) (1 + n) 0 < suc m
some_by true n m h = omega arith
some_by false n m h = let l = h refl in omega arith

prefix_some : {X : Type 0} (test : X → Bool) (xs : List X) → list_any test xs ≡ true → prefix_len (λ x. not (test x)) xs < length xs
prefix_some test [] e = absurd (cc)
prefix_some test (x ∷ xs) e = some_by (test x) (prefix_len (λ y. not (test y)) xs) (length xs) (λ f. prefix_some test xs (or_true (test x) (list_any test xs) e f))

not_below : (n m : ℕ) → n ≡ m → nat_lt n m ≡ false
not_below n m e = grind (arith, nat_tests)

is_below : (n m : ℕ) → n < m → nat_lt n m ≡ true
is_below n m e = grind (arith, nat_tests)

pub position_none : {X : Type 0} (test : X → Bool) (xs : List X) → list_any test xs ≡ false → position test xs ≡ None
position_none test xs e = skipped _ _ _ (not_below _ _ (prefix_none test xs e))

pub position_some : {X : Type 0} (test : X → Bool) (xs : List X) → list_any test xs ≡ true → (k : ℕ) × (position test xs ≡ Some k)
position_some test xs e = (prefix_len (λ x. not (test x)) xs, taken _ _ _ (is_below _ _ (prefix_some test xs e)))
