-- The rows that are reached.
use Rattle.std.specs.Prelude.{◌≡◌, ℕ, ◌<◌, Bool, true, false, List, [], length, slice_get, slice_index_or, unwrap_or, Contains}

-- the rows that a row names
abbrev pub named_by : List (List ℕ) → ℕ → List ℕ
named_by names row = unwrap_or (slice_get names row) []

-- the least set that has the roots, and each row that a row of it names
pub data IsReached (roots : List ℕ) (names : List (List ℕ)) : ℕ → Type 0 where
  root : (row : ℕ) → Contains roots row → IsReached roots names row
  named : (by row : ℕ) → IsReached roots names by → Contains (named_by names by) row → IsReached roots names row

-- for each row whether it is reached
pub record AreReached (roots : List ℕ) (names : List (List ℕ)) (marks : List Bool) : Type 0 where
  pub as_many : length marks ≡ length names
  pub yes : (row : ℕ) → slice_index_or marks row false ≡ true → IsReached roots names row
  pub no : (row : ℕ) → row < length names → slice_index_or marks row false ≡ false → IsReached roots names row → ⊥
