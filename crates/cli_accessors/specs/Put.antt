-- Inner facts: a method was written down for a property.
use Rattle.std.specs.Prelude.{◌≡◌, ◌≢◌, ◌⊎◌, ℕ, ◌+◌, ◌<◌, List, length, slice_get, Option, Some, None}
use Rattle.dc_causes.specs.First.{IsLeast}
use Rattle.cli_metadata.specs.declared.tables.Table.TheVariants as tables
use Rattle.cli_metadata.specs.Metadata.{Contents, rows_of}
use Rattle.cli_accessors.specs.declared.parts.Part.{Part}
use Rattle.cli_accessors.specs.Accessors.{semantics_at, IsAccessor}

pub record IsPut (property : Option ℕ) (method : ℕ) (before after : List (Option ℕ)) : Type 0 where
  pub long : length after ≡ length before
  pub each : (j : ℕ) (found : Option ℕ) → slice_get after j ≡ Some found → ((property ≡ Some (j + 1)) × (found ≡ Some method)) ⊎ ((property ≢ Some (j + 1)) × (slice_get before j ≡ Some found))

-- such a row that stands behind row k
pub record IsBehind (m : Contents) (what : Part) (p k r : ℕ) : Type 0 where
  pub is : IsAccessor m what p r
  pub behind : k < r

abbrev pub IsOfBehind : Contents → Part → ℕ → ℕ → Option ℕ → Type 0
IsOfBehind m what p k (Some method) = (r : ℕ) × IsLeast (IsBehind m what p k) r × (method ≡ (semantics_at m r).method)
IsOfBehind m what p k None = (r : ℕ) → IsBehind m what p k r → ⊥

pub record AreBehind (m : Contents) (what : Part) (k : ℕ) (found : List (Option ℕ)) : Type 0 where
  pub long : length found ≡ rows_of m tables.Property
  pub each : (j : ℕ) (method : Option ℕ) → slice_get found j ≡ Some method → IsOfBehind m what (j + 1) k method
