-- Marks of rows, and how many no walk has met.
use Rattle.std.proofs.Common.{◌≡◌, ◌≢◌, ◌⊎◌, ℕ, zero, suc, ◌+◌, ◌<◌, ◌≤◌, Option, Some, None, List, [], ◌∷◌, length, inl, inr, sym, refl, ap, arith}
use Rattle.std.proofs.Math.ListN.{set}
use Rattle.std.specs.List.{slice_get}
use Rattle.dc_base.specs.declared.names.TypeId.{TypeId}
use Rattle.cli_scopes.specs.declared.walk.Mark.{Mark}
use Rattle.cli_scopes.specs.declared.walk.Mark.TheVariants.{New, Walked, Known}

-- what stands at a place after a write: what was written, or what stood there
pub at_set : {X : Type 0} (xs : List X) (i : ℕ) (v : X) (j : ℕ) (y : X) → slice_get (set xs i v) j ≡ Some y → ((j ≡ i) × (y ≡ v)) ⊎ ((j ≢ i) × (slice_get xs j ≡ Some y))
at_set [] i v j y h = inr ((λ e. let k : Some y ≡ None = sym h in cc), h)
at_set (x ∷ xs) zero v zero y h = inl (refl, cc)
at_set (x ∷ xs) zero v (suc j) y h = inr ((λ e. omega arith), h)
at_set (x ∷ xs) (suc i) v zero y h = inr ((λ e. omega arith), h)
at_set (x ∷ xs) (suc i) v (suc j) y h =
    elim (at_set xs i v j y h) [
      | inl p ↦ inl (ap suc p.0, p.1)
      | inr p ↦ inr ((λ e. p.0 (omega arith)), p.1)
    ]

pub set_at : {X : Type 0} (xs : List X) (i : ℕ) (v : X) → i < length xs → slice_get (set xs i v) i ≡ Some v
set_at [] i v h = absurd (omega arith)
set_at (x ∷ xs) zero v h = refl
set_at (x ∷ xs) (suc i) v h = set_at xs i v (omega arith)

pub set_other : {X : Type 0} (xs : List X) (i : ℕ) (v : X) (j : ℕ) (y : X) → j ≢ i → slice_get xs j ≡ Some y → slice_get (set xs i v) j ≡ Some y
set_other [] i v j y apart h = h
set_other (x ∷ xs) zero v zero y apart h = absurd (apart refl)
set_other (x ∷ xs) zero v (suc j) y apart h = h
set_other (x ∷ xs) (suc i) v zero y apart h = h
set_other (x ∷ xs) (suc i) v (suc j) y apart h = set_other xs i v j y (λ e. apart (ap suc e)) h

abbrev pub new_one : Mark → ℕ
new_one New = 2
new_one Walked = 0
new_one (Known found) = 0

-- twice the number of rows that no walk has met
abbrev pub new_work : List Mark → ℕ
new_work [] = 0
new_work (m ∷ marks) = new_one m + new_work marks

pub new_work-known : (marks : List Mark) (i : ℕ) (found : Option TypeId) → new_work (set marks i (Known found)) ≤ new_work marks
new_work-known [] i found = omega arith
new_work-known (m ∷ marks) zero found = omega arith
new_work-known (m ∷ marks) (suc i) found = omega (arith, new_work-known marks i found)

pub new_work-walked : (marks : List Mark) (i : ℕ) → slice_get marks i ≡ Some New → new_work (set marks i Walked) + 2 ≡ new_work marks
new_work-walked [] i h = let k : None ≡ Some New = h in absurd cc
new_work-walked (New ∷ marks) zero h = omega arith
new_work-walked (Walked ∷ marks) zero h = let k : Some Walked ≡ Some New = h in absurd cc
new_work-walked (Known found ∷ marks) zero h = let k : Some (Known found) ≡ Some New = h in absurd cc
new_work-walked (m ∷ marks) (suc i) h = omega (arith, new_work-walked marks i h)
