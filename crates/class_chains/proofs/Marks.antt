-- Marks of numbers, and how much is left to walk.
use Rattle.std.proofs.Common.{◌≡◌, ◌≢◌, ◌⊎◌, ℕ, zero, suc, ◌+◌, ◌<◌, ◌≤◌, Option, Some, None, List, [], ◌∷◌, length, inl, inr, sym, refl, ap, arith}
use Rattle.std.proofs.Math.ListN.{set}
use Rattle.std.specs.List.{slice_get}
use Rattle.class_chains.specs.declared.walk.Mark.{Mark}
use Rattle.class_chains.specs.declared.walk.Mark.TheVariants.{New, Walked, Ends}

-- what stands at a place after a write: what was written, or what stood there
pub at_set : {X : Type 0} (xs : List X) (i : ℕ) (v : X) (j : ℕ) (y : X) → slice_get (set xs i v) j ≡ Some y → ((j ≡ i) × (y ≡ v)) ⊎ ((j ≢ i) × (slice_get xs j ≡ Some y))
at_set [] i v j y h = inr ((λ e. let k : Some y ≡ None = sym h in cc), h)
at_set (x ∷ xs) zero v zero y h = inl (refl, cc)
at_set (x ∷ xs) zero v (suc j) y h = inr ((λ e. omega arith), h)
at_set (x ∷ xs) (suc i) v zero y h = inr ((λ e. omega arith), h)
at_set (x ∷ xs) (suc i) v (suc j) y h =
    elim (at_set xs i v j y h) [
      | inl p ↦ inl (ap suc p.0, p.1)
      | inr p ↦ inr ((λ e. p.0 (omega arith)), p.1)
    ]

pub set_at : {X : Type 0} (xs : List X) (i : ℕ) (v : X) → i < length xs → slice_get (set xs i v) i ≡ Some v
set_at [] i v h = absurd (omega arith)
set_at (x ∷ xs) zero v h = refl
set_at (x ∷ xs) (suc i) v h = set_at xs i v (omega arith)

-- what walks that begin at new numbers may take
abbrev pub new_work : List (List ℕ) → List Mark → ℕ
new_work [] marks = 0
new_work (w ∷ ways) [] = 0
new_work (w ∷ ways) (New ∷ marks) = length w + 2 + new_work ways marks
new_work (w ∷ ways) (Walked ∷ marks) = new_work ways marks
new_work (w ∷ ways) (Ends ∷ marks) = new_work ways marks

pub new_work-end : (ways : List (List ℕ)) (marks : List Mark) (i : ℕ) → new_work ways (set marks i Ends) ≤ new_work ways marks
new_work-end [] marks i = omega arith
new_work-end (w ∷ ways) [] i = omega arith
new_work-end (w ∷ ways) (New ∷ marks) zero = omega arith
new_work-end (w ∷ ways) (Walked ∷ marks) zero = omega arith
new_work-end (w ∷ ways) (Ends ∷ marks) zero = omega arith
new_work-end (w ∷ ways) (New ∷ marks) (suc i) = omega (arith, new_work-end ways marks i)
new_work-end (w ∷ ways) (Walked ∷ marks) (suc i) = new_work-end ways marks i
new_work-end (w ∷ ways) (Ends ∷ marks) (suc i) = new_work-end ways marks i

pub new_work-walk : (ways : List (List ℕ)) (marks : List Mark) (i : ℕ) (w : List ℕ) → slice_get marks i ≡ Some New → slice_get ways i ≡ Some w → new_work ways (set marks i Walked) + (length w + 2) ≡ new_work ways marks
new_work-walk [] marks i w m h = let k : None ≡ Some w = h in cc
new_work-walk (u ∷ ways) [] i w m h = let k : None ≡ Some New = m in cc
new_work-walk (u ∷ ways) (New ∷ marks) zero w m h = let e : u ≡ w = cc in rw e (omega arith)
new_work-walk (u ∷ ways) (Walked ∷ marks) zero w m h = let k : Some Walked ≡ Some New = m in cc
new_work-walk (u ∷ ways) (Ends ∷ marks) zero w m h = let k : Some Ends ≡ Some New = m in cc
new_work-walk (u ∷ ways) (New ∷ marks) (suc i) w m h = omega (arith, new_work-walk ways marks i w m h)
new_work-walk (u ∷ ways) (Walked ∷ marks) (suc i) w m h = new_work-walk ways marks i w m h
new_work-walk (u ∷ ways) (Ends ∷ marks) (suc i) w m h = new_work-walk ways marks i w m h
