-- Numbers that rise, and which of them pass a test.
use Rattle.std.proofs.Common.{◌≡◌, ◌⊎◌, ℕ, zero, suc, ◌+◌, ◌<◌, Bool, true, false, cond, List, [], ◌∷◌, get_or, inl, inr, sym, refl, ap, subst, ◌∙◌, arith}
use Rattle.std.proofs.lemmas.List.Kept.{AllPairs-from_increasing}
use Rattle.std.proofs.lemmas.List.FromFn.{get_or-range_with_len, length-range_with_len}
use Rattle.std.specs.List.{Contains, filter, range_with_len}
use Rattle.std.specs.List.Sorted.{IsStrictlyIncreasing}

contains_cases : (x : ℕ) (xs : List ℕ) (m : ℕ) → Contains (x ∷ xs) m → (x ≡ m) ⊎ Contains xs m
contains_cases x xs m (zero, lt, e) = inl e
contains_cases x xs m (suc k, lt, e) = inr (k, omega (arith, lt), e)

contains_head : (x : ℕ) (xs : List ℕ) (m : ℕ) → x ≡ m → Contains (x ∷ xs) m
contains_head x xs m e = (0, omega arith, e)

contains_tail : (x : ℕ) (xs : List ℕ) (m : ℕ) → Contains xs m → Contains (x ∷ xs) m
contains_tail x xs m h = let lt = h.1 in (suc h.0, omega (arith, lt), h.2)

contains_none : (m : ℕ) → Contains [] m → ⊥
contains_none m h = let lt = h.1 in omega (arith, lt)

rises_head : (x : ℕ) (xs : List ℕ) → IsStrictlyIncreasing (x ∷ xs) → (m : ℕ) → Contains xs m → x < m
rises_head x xs rises m (k, lt, e) =
    let less : x < get_or xs k m = AllPairs-from_increasing (x ∷ xs) rises 0 (suc k) m (omega arith) (omega (arith, lt)) in
    subst (λ (n : ℕ). x < n) e less

rises_tail : (x : ℕ) (xs : List ℕ) → IsStrictlyIncreasing (x ∷ xs) → IsStrictlyIncreasing xs
rises_tail x xs rises k within =
    let e : suc k + 1 ≡ suc (k + 1) = omega arith in
    subst (λ (n : ℕ). get_or xs k 0 < get_or (x ∷ xs) n 0) e (rises (suc k) (omega (arith, within)))

-- numbers that rise are one list where they are the same
pub one_rising : (xs ys : List ℕ) → IsStrictlyIncreasing xs → IsStrictlyIncreasing ys → ((m : ℕ) → Contains xs m → Contains ys m) → ((m : ℕ) → Contains ys m → Contains xs m) → xs ≡ ys
one_rising [] [] p q to_ back = refl
one_rising [] (y ∷ ys) p q to_ back = absurd (contains_none y (back y (contains_head y ys y refl)))
one_rising (x ∷ xs) [] p q to_ back = absurd (contains_none x (to_ x (contains_head x xs x refl)))
one_rising (x ∷ xs) (y ∷ ys) p q to_ back =
    let same : x ≡ y = elim (contains_cases y ys x (to_ x (contains_head x xs x refl))) [
      | inl e ↦ sym e
      | inr h ↦ elim (contains_cases x xs y (back y (contains_head y ys y refl))) [
        | inl e ↦ e
        | inr k ↦ let a = rises_head y ys q x h in let b = rises_head x xs p y k in absurd (omega (arith, a, b))
      ]
    ] in
    let rest : xs ≡ ys = one_rising xs ys (rises_tail x xs p) (rises_tail y ys q)
    (λ m h. elim (contains_cases y ys m (to_ m (contains_tail x xs m h))) [
      | inl e ↦ let a = rises_head x xs p m h in absurd (omega (arith, a, e, same))
      | inr k ↦ k
    ])
    (λ m h. elim (contains_cases x xs m (back m (contains_tail y ys m h))) [
      | inl e ↦ let a = rises_head y ys q m h in absurd (omega (arith, a, e, same))
      | inr k ↦ k
    ]) in
    ap (λ (n : ℕ). n ∷ xs) same ∙ ap (λ (zs : List ℕ). y ∷ zs) rest

-- the numbers below a bound
pub range_rises : (n : ℕ) → IsStrictlyIncreasing (range_with_len 0 n)
range_rises n k within =
    let long = length-range_with_len 0 n in
    let a : get_or (range_with_len 0 n) k 0 ≡ 0 + k = get_or-range_with_len 0 n k 0 (omega (arith, long, within)) in
    let b : get_or (range_with_len 0 n) (k + 1) 0 ≡ 0 + (k + 1) = get_or-range_with_len 0 n (k + 1) 0 (omega (arith, long, within)) in
    omega (arith, a, b)

pub range_has : (n m : ℕ) → m < n → Contains (range_with_len 0 n) m
range_has n m lt = (m, omega (arith, length-range_with_len 0 n), get_or-range_with_len 0 n m m lt ∙ omega arith)

-- those that pass
pub filter_to : (p : ℕ → Bool) (xs : List ℕ) (m : ℕ) → Contains (filter p xs) m → Contains xs m × (p m ≡ true)
filter_to p [] m h = absurd (contains_none m h)
filter_to p (x ∷ xs) m h =
    elim (p x) as (λ (b : Bool). p x ≡ b → Contains (cond b (x ∷ filter p xs) (filter p xs)) m → Contains (x ∷ xs) m × (p m ≡ true)) [
      | true ↦ λ e k. elim (contains_cases x (filter p xs) m k) [
        | inl same ↦ (contains_head x xs m same, ap p (sym same) ∙ e)
        | inr rest ↦ let r = filter_to p xs m rest in (contains_tail x xs m r.0, r.1)
      ]
      | false ↦ λ e k. let r = filter_to p xs m k in (contains_tail x xs m r.0, r.1)
    ] refl h

pub filter_back : (p : ℕ → Bool) (xs : List ℕ) (m : ℕ) → Contains xs m → p m ≡ true → Contains (filter p xs) m
filter_back p [] m h yes_ = absurd (contains_none m h)
filter_back p (x ∷ xs) m h yes_ =
    elim (p x) as (λ (b : Bool). p x ≡ b → Contains (cond b (x ∷ filter p xs) (filter p xs)) m) [
      | true ↦ λ e. elim (contains_cases x xs m h) [
        | inl same ↦ contains_head x (filter p xs) m same
        | inr rest ↦ contains_tail x (filter p xs) m (filter_back p xs m rest yes_)
      ]
      | false ↦ λ e. elim (contains_cases x xs m h) [
        | inl same ↦ let k : false ≡ true = sym e ∙ ap p same ∙ yes_ in cc
        | inr rest ↦ filter_back p xs m rest yes_
      ]
    ] refl
