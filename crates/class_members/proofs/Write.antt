-- Flags after one is put up.
use Rattle.std.proofs.Common.{◌≡◌, ◌⊎◌, ℕ, zero, suc, ◌<◌, Bool, true, false, Some, None, List, [], ◌∷◌, length, replicate, refl, ap, inl, inr, arith}
use Rattle.std.proofs.Math.ListN.{set}
use Rattle.std.specs.List.{slice_get}

-- what stands at a place after a write: what was written, or what stood there
pub at_set : {X : Type 0} (xs : List X) (i : ℕ) (v : X) (j : ℕ) (y : X) → slice_get (set xs i v) j ≡ Some y → ((j ≡ i) × (y ≡ v)) ⊎ (slice_get xs j ≡ Some y)
at_set [] i v j y h = inr h
at_set (x ∷ xs) zero v zero y h = inl (refl, cc)
at_set (x ∷ xs) zero v (suc j) y h = inr h
at_set (x ∷ xs) (suc i) v zero y h = inr h
at_set (x ∷ xs) (suc i) v (suc j) y h =
    elim (at_set xs i v j y h) [
      | inl p ↦ inl (ap suc p.0, p.1)
      | inr p ↦ inr p
    ]

pub set_at : {X : Type 0} (xs : List X) (i : ℕ) (v : X) → i < length xs → slice_get (set xs i v) i ≡ Some v
set_at [] i v h = absurd (omega arith)
set_at (x ∷ xs) zero v h = refl
set_at (x ∷ xs) (suc i) v h = set_at xs i v (omega arith)

-- what is up stays up
pub kept_up : (flags : List Bool) (i j : ℕ) → slice_get flags j ≡ Some true → slice_get (set flags i true) j ≡ Some true
kept_up [] i j h = h
kept_up (x ∷ flags) zero zero h = refl
kept_up (x ∷ flags) zero (suc j) h = h
kept_up (x ∷ flags) (suc i) zero h = h
kept_up (x ∷ flags) (suc i) (suc j) h = kept_up flags i j h

-- none of so many flags that are down is up
pub none_up : (n m : ℕ) → slice_get (replicate n false) m ≡ Some true → ⊥
none_up zero m h = let none : None ≡ Some true = h in cc
none_up (suc n) zero h = let e : Some false ≡ Some true = h in cc
none_up (suc n) (suc m) h = none_up n m h
