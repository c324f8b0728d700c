-- Inner facts: a row was written down for a parameter, where none was.
use Rattle.std.specs.Prelude.{◌≡◌, ◌⊎◌, ℕ, ◌+◌, ◌<◌, List, length, slice_get, Option, Some, None}
use Rattle.dc_causes.specs.First.{IsLeast}
use Rattle.cli_metadata.specs.Metadata.{Contents}
use Rattle.cli_lists.specs.declared.column.ListColumn.{ListColumn}
use Rattle.cli_params.specs.Params.{IsParamOf, IsParamRow}

pub record IsPut (sequence r : ℕ) (before after : List (Option ℕ)) : Type 0 where
  pub long : length after ≡ length before
  pub each : (j : ℕ) (found : Option ℕ) → slice_get after j ≡ Some found
      → ((sequence ≡ j + 1) × (slice_get before j ≡ Some None) × (found ≡ Some r)) ⊎ ((slice_get before j ≡ Some found) × (sequence ≡ j + 1 → found ≡ None → ⊥))

-- the first row of parameter i, where it stands before this one
abbrev pub IsBefore : Contents → ListColumn → ℕ → ℕ → ℕ → Option ℕ → Type 0
IsBefore m params k i end (Some r) = IsLeast (IsParamOf m params k i) r
IsBefore m params k i end None = (r : ℕ) → r < end → IsParamOf m params k i r → ⊥

pub record AreBefore (m : Contents) (params : ListColumn) (k count end : ℕ) (found : List (Option ℕ)) : Type 0 where
  pub long : length found ≡ count
  pub each : (j : ℕ) (row : Option ℕ) → slice_get found j ≡ Some row → IsBefore m params k (j + 1) end row

-- for each parameter the first row
pub record AreParamRows (m : Contents) (params : ListColumn) (k count : ℕ) (found : List (Option ℕ)) : Type 0 where
  pub long : length found ≡ count
  pub each : (j : ℕ) (row : Option ℕ) → slice_get found j ≡ Some row → IsParamRow m params k (j + 1) row
