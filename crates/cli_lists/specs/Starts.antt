-- List columns: which rows of a table stand in the list of which row (ECMA-335 II.22.26, II.22.35, II.22.37).
-- A cell holds the number of the row, from 1, at which the list begins.
use Rattle.std.specs.Prelude.{ℕ, ◌+◌, ◌-◌, ◌≤◌, ◌<◌, List, length, slice_index}

-- the cell of row k of a list column, whose rows count from 1
abbrev pub cell_of : List ℕ → ℕ → ℕ
cell_of cells k = slice_index cells (k - 1)

-- row k's list begins at a row of the table or just behind its last one, and not before the list of the row before
pub record IsStart (count : ℕ) (cells : List ℕ) (k : ℕ) : Type 0 where
  pub low : 1 ≤ cell_of cells k
  pub high : cell_of cells k ≤ count + 1
  pub rising : 1 < k → cell_of cells (k - 1) ≤ cell_of cells k

-- the cells of a list column, for a table with so many rows
abbrev pub AreStarts : ℕ → List ℕ → Type 0
AreStarts count cells = (k : ℕ) → 1 ≤ k → k ≤ length cells → IsStart count cells k

-- Row n of the table stands in the list of row k: the list ends where that of the next row begins, or at the table's end.
pub record IsInList (count : ℕ) (cells : List ℕ) (k n : ℕ) : Type 0 where
  pub low : 1 ≤ k
  pub high : k ≤ length cells
  pub from : cell_of cells k ≤ n
  pub within : n ≤ count
  pub before_next : k < length cells → n < cell_of cells (k + 1)
