-- Inner facts: the marks while rows are visited.
use Rattle.std.specs.Prelude.{◌≡◌, ◌⊎◌, ℕ, ◌+◌, ◌<◌, Bool, true, false, not, List, length, slice_index_or, count_by}
use Rattle.cli_reached.specs.Reached.{named_by, IsReached}

-- the row is one of the first so many
abbrev pub IsAmong : ℕ → List ℕ → ℕ → Type 0
IsAmong count rows row = (k : ℕ) × (k < count) × (slice_index_or rows k 0 ≡ row)

abbrev pub IsIn : List ℕ → ℕ → Type 0
IsIn rows row = IsAmong (length rows) rows row

-- each of these rows is below the bound
abbrev pub AreWithin : ℕ → List ℕ → Type 0
AreWithin bound rows = (k : ℕ) → k < length rows → slice_index_or rows k 0 < bound

abbrev pub IsMarked : List Bool → ℕ → Type 0
IsMarked marks row = slice_index_or marks row false ≡ true

-- of some rows the first so many were marked; those that weren't marked before are still to do
pub record AreVisited (count : ℕ) (rows : List ℕ) (before : List Bool) (todo_before : List ℕ) (after : List Bool) (todo : List ℕ) : Type 0 where
  pub as_many : length after ≡ length before
  pub kept : (row : ℕ) → IsMarked before row → IsMarked after row
  pub marked : (k : ℕ) → k < count → slice_index_or rows k 0 < length before → IsMarked after (slice_index_or rows k 0)
  pub only : (row : ℕ) → IsMarked after row → IsMarked before row ⊎ IsAmong count rows row
  pub todo_kept : (row : ℕ) → IsIn todo_before row → IsIn todo row
  pub todo_new : (row : ℕ) → IsMarked after row → IsMarked before row ⊎ IsIn todo row
  pub todo_only : (row : ℕ) → IsIn todo row → IsIn todo_before row ⊎ IsMarked after row
  pub within : AreWithin (length before) todo
  pub sum : count_by not after + length todo ≡ count_by not before + length todo_before

-- each row that the row names is marked
abbrev pub AreNamesMarked : List (List ℕ) → List Bool → ℕ → Type 0
AreNamesMarked names marks row =
    (k : ℕ) → k < length (named_by names row) → slice_index_or (named_by names row) k 0 < length names
    → IsMarked marks (slice_index_or (named_by names row) k 0)

-- what is marked is reached, and what a marked row names is marked or still to do
pub record AreUnderWay (roots : List ℕ) (names : List (List ℕ)) (marks : List Bool) (todo : List ℕ) : Type 0 where
  pub as_many : length marks ≡ length names
  pub within : AreWithin (length names) todo
  pub sound : (row : ℕ) → IsMarked marks row → IsReached roots names row
  pub todo_sound : (row : ℕ) → IsIn todo row → IsReached roots names row
  pub roots_marked : (k : ℕ) → k < length roots → slice_index_or roots k 0 < length names → IsMarked marks (slice_index_or roots k 0)
  pub closed : (row : ℕ) → IsMarked marks row → IsIn todo row ⊎ AreNamesMarked names marks row
