-- Starts never fall, so lists are stretches one behind the other.
use Rattle.std.proofs.Common.{◌≡◌, ℕ, zero, suc, ◌+◌, ◌-◌, ◌<◌, ◌≤◌, List, length, inl, inr, subst, arith}
use Rattle.std.proofs.lemmas.Bool.{cases_lt}
use Rattle.cli_lists.specs.Starts.{cell_of, AreStarts}
use Rattle.cli_lists.specs.Laws.{HasOneOwner, StandInOrder}

-- a later cell is no lower
pub grows : (count : ℕ) (cells : List ℕ) → AreStarts count cells → (d j : ℕ) → 1 ≤ j → j + d ≤ length cells → cell_of cells j ≤ cell_of cells (j + d)
grows count cells starts zero j low high =
    let same : j ≡ j + zero = omega arith in
    let itself : cell_of cells j ≤ cell_of cells j = omega arith in
    subst (λ (k : ℕ). cell_of cells j ≤ cell_of cells k) same itself
grows count cells starts (suc d) j low high =
    let before : cell_of cells j ≤ cell_of cells (j + d) = grows count cells starts d j low (omega (arith, high)) in
    let step : cell_of cells ((j + suc d) - 1) ≤ cell_of cells (j + suc d) = (starts (j + suc d) (omega arith) high).rising (omega (arith, low)) in
    let same : (j + suc d) - 1 ≡ j + d = omega arith in
    let step_ : cell_of cells (j + d) ≤ cell_of cells (j + suc d) = subst (λ (k : ℕ). cell_of cells k ≤ cell_of cells (j + suc d)) same step in
    omega (arith, before, step_)

pub never_falls : (count : ℕ) (cells : List ℕ) → AreStarts count cells → (j k : ℕ) → 1 ≤ j → j ≤ k → k ≤ length cells → cell_of cells j ≤ cell_of cells k
never_falls count cells starts j k low le high =
    let there : j + (k - j) ≡ k = omega (arith, le) in
    subst (λ (n : ℕ). cell_of cells j ≤ cell_of cells n) there (grows count cells starts (k - j) j low (omega (arith, le, high)))

pub in_order : StandInOrder
in_order count cells j k m n starts lt one other =
    let next : m < cell_of cells (j + 1) = one.before_next (omega (arith, lt, other.high)) in
    let up : cell_of cells (j + 1) ≤ cell_of cells k = never_falls count cells starts (j + 1) k (omega arith) (omega (arith, lt)) other.high in
    omega (arith, next, up, other.from)

pub one_owner : HasOneOwner
one_owner count cells j k n starts one other = elim (cases_lt j k) [
  | inl lt ↦ absurd (omega (arith, in_order count cells j k n n starts lt one other))
  | inr ge ↦ elim (cases_lt k j) [
    | inl lt ↦ absurd (omega (arith, in_order count cells k j n n starts lt other one))
    | inr le ↦ omega (arith, ge, le)
  ]
]
