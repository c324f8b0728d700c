-- Lists of marks of which one is set.
use Rattle.std.proofs.Common.{◌≡◌, ◌⊎◌, ℕ, zero, suc, Some, List, [], ◌∷◌, set, inl, inr, refl, ap}
use Rattle.std.specs.List.{slice_get}

-- what stands there after a change stood there before, or is the new item at its index
pub set_cases : {X : Type 0} (xs : List X) (i j : ℕ) (x y : X) → slice_get (set xs i x) j ≡ Some y → ((j ≡ i) × (x ≡ y)) ⊎ (slice_get xs j ≡ Some y)
set_cases [] i j x y at = inr at
set_cases (z ∷ zs) zero zero x y at = let e : x ≡ y = cc in inl (refl, e)
set_cases (z ∷ zs) zero (suc j) x y at = inr at
set_cases (z ∷ zs) (suc i) zero x y at = inr at
set_cases (z ∷ zs) (suc i) (suc j) x y at = elim (set_cases zs i j x y at) [
  | inl new_ ↦ inl (ap suc new_.0, new_.1)
  | inr old ↦ inr old
]
