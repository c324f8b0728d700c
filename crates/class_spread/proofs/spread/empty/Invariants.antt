use Rattle.std.proofs.Common.{◌≡◌, ℕ, length}
use Rattle.class_spread.specs.Filled.{IsFilled}
use Rattle.class_spread.proofs.spread.empty.Given as goal

abbrev pub invariant-loop : goal.invariant-loop
invariant-loop l = (length l.table.items ≡ l.index) × ((t : ℕ) → IsFilled l.table.items t → ⊥)
