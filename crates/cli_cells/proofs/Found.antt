-- The row that is found is one of its table's, and doesn't stand.
use Rattle.std.proofs.Common.{ℕ, ◌<◌, List, [], ◌∷◌, Err, sym, subst, inl, inr}
use Rattle.dc_causes.specs.Causes.{InOrder}
use Rattle.dc_causes.specs.Rows.{OfRow, OfRows}
use Rattle.dc_causes.proofs.Chain.{then_fault}
use Rattle.dc_causes.proofs.Single.{not_both}
use Rattle.cli_cells.specs.declared.table.CellTable.{CellTable}
use Rattle.cli_cells.specs.Rows.{Subject}
use Rattle.cli_cells.specs.First.{asked_rows, RowStands}

abbrev pub IsFound : Subject → CellTable × ℕ → Type 0
IsFound s p = (p.1 < asked_rows p.0 s) × (RowStands p.0 s p.1 → ⊥)

found_in : (s : Subject) (x : CellTable) (p : CellTable × ℕ) → OfRow asked_rows RowStands s x (Err p) → IsFound s p
found_in s x p h = subst (λ (q : CellTable × ℕ). IsFound s q) (sym h.3.1) (h.1, h.3.0)

pub found : (s : Subject) (xs : List CellTable) (p : CellTable × ℕ) → OfRows asked_rows RowStands s xs (Err p) → IsFound s p
found s [] p h = absurd (not_both tt p (sym h))
found s (x ∷ xs) p h = elim (then_fault (OfRow asked_rows RowStands s x) (λ _. InOrder (OfRow asked_rows RowStands s) xs) p h) [
  | inl here ↦ found_in s x p here
  | inr rest ↦ found s xs p rest.2
]
