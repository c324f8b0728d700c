-- Members of what is left of a list.
use Rattle.std.proofs.Common.{◌≡◌, ℕ, zero, suc, ◌+◌, ◌<◌, ◌≤◌, Bool, true, false, Some, None, List, [], ◌∷◌, length, drop, refl, sym, ◌∙◌, ap, arith}
use Rattle.std.specs.Prelude.{◌||◌}
use Rattle.std.specs.List.{list_any, slice_get}

-- an item from an index on passes the test
pub record IsFoundFrom {X : Type 0} (p : X → Bool) (xs : List X) (from_ : ℕ) : Type 0 where
  pub index : ℕ
  pub late : from_ ≤ index
  pub item : X
  pub stands : slice_get xs index ≡ Some item
  pub passes : p item ≡ true

pub found_in : {X : Type 0} (p : X → Bool) (xs : List X) → list_any p xs ≡ true → IsFoundFrom p xs 0
found_in p [] h = let none : false ≡ true = h in absurd cc
found_in p (x ∷ xs) h =
    elim (p x) as (λ (v : Bool). p x ≡ v → (v || list_any p xs) ≡ true → IsFoundFrom p (x ∷ xs) 0) [
      | true ↦ λ e _. record { index = 0; late = omega arith; item = x; stands = refl; passes = e }
      | false ↦ λ e k. let f = found_in p xs k in record { index = suc f.index; late = omega arith; item = f.item; stands = f.stands; passes = f.passes }
    ] refl h

pub found_from : {X : Type 0} (p : X → Bool) (xs : List X) (i : ℕ) → list_any p (drop i xs) ≡ true → IsFoundFrom p xs i
found_from p xs zero h = found_in p xs h
found_from p [] (suc i) h = let none : false ≡ true = h in absurd cc
found_from p (x ∷ xs) (suc i) h =
    let f = found_from p xs i h in
    record { index = suc f.index; late = omega (arith, f.late); item = f.item; stands = f.stands; passes = f.passes }

pub any_at : {X : Type 0} (p : X → Bool) (xs : List X) (j : ℕ) (x : X) → slice_get xs j ≡ Some x → p x ≡ true → list_any p xs ≡ true
any_at p [] j x h passes = let none : None ≡ Some x = h in absurd cc
any_at p (y ∷ xs) zero x h passes = let e : y ≡ x = cc in rw (e, passes) refl
any_at p (y ∷ xs) (suc j) x h passes =
    let rest = any_at p xs j x h passes in
    elim (p y) as (λ (v : Bool). (v || list_any p xs) ≡ true) [ true ↦ refl | false ↦ rest ]

pub any_from : {X : Type 0} (p : X → Bool) (xs : List X) (i j : ℕ) (x : X) → i ≤ j → slice_get xs j ≡ Some x → p x ≡ true → list_any p (drop i xs) ≡ true
any_from p xs zero j x le h passes = any_at p xs j x h passes
any_from p [] (suc i) j x le h passes = let none : None ≡ Some x = h in absurd cc
any_from p (y ∷ xs) (suc i) zero x le h passes = absurd (omega (arith, le))
any_from p (y ∷ xs) (suc i) (suc j) x le h passes = any_from p xs i j x (omega (arith, le)) h passes
