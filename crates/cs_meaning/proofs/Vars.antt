-- Lists of variables: a write, then a read.
use Rattle.std.proofs.Common.{◌≡◌, ◌≢◌, ℕ, zero, suc, ◌<◌, List, [], ◌∷◌, length, Some, refl, ap, arith, slice_get, slice_set, slice_index_or, Contains, inl, inr, ◌⊎◌}

pub slice_get-set_same : {X : Type 0} (xs : List X) (i : ℕ) (x : X) → i < length xs → slice_get (slice_set xs i x) i ≡ Some x
slice_get-set_same [] i x below = absurd (omega arith)
slice_get-set_same (y ∷ ys) zero x below = refl
slice_get-set_same (y ∷ ys) (suc i) x below = slice_get-set_same ys i x (omega arith)

pub slice_get-set_other : {X : Type 0} (xs : List X) (i j : ℕ) (x : X) → i ≢ j → slice_get (slice_set xs i x) j ≡ slice_get xs j
slice_get-set_other [] i j x apart = refl
slice_get-set_other (y ∷ ys) zero zero x apart = absurd (apart refl)
slice_get-set_other (y ∷ ys) zero (suc j) x apart = refl
slice_get-set_other (y ∷ ys) (suc i) zero x apart = refl
slice_get-set_other (y ∷ ys) (suc i) (suc j) x apart = slice_get-set_other ys i j x (λ same. apart (ap suc same))

Contains-cons_at : (y : ℕ) (ys : List ℕ) (v k : ℕ) → k < length (y ∷ ys) → slice_index_or (y ∷ ys) k v ≡ v → (y ≡ v) ⊎ Contains ys v
Contains-cons_at y ys v zero below is = inl is
Contains-cons_at y ys v (suc k) below is = inr (k, omega arith, is)

pub Contains-cons_cases : (y : ℕ) (ys : List ℕ) (v : ℕ) → Contains (y ∷ ys) v → (y ≡ v) ⊎ Contains ys v
Contains-cons_cases y ys v held = Contains-cons_at y ys v held.0 held.1 held.2
