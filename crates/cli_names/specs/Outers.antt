-- Which types stand in which (ECMA-335 II.22.32).
use Rattle.std.specs.Prelude.{◌≡◌, ◌≢◌, ◌⊎◌, ℕ, ◌+◌, ◌<◌, ◌≤◌, List, length, slice_get, Option, Some, None}
use Rattle.dc_causes.specs.First.{IsLeast}
use Rattle.cli_metadata.specs.declared.tables.Table.TheVariants as tables
use Rattle.cli_metadata.specs.Metadata.{Contents, rows_of, row_of}
use Rattle.cli_tables.specs.declared.types.NestedClassRow.{NestedClassRow}
use Rattle.cli_tables.specs.Types.{nested_class_of}

-- row r of NestedClass
abbrev pub nesting : Contents → ℕ → NestedClassRow
nesting m r = nested_class_of (row_of m tables.NestedClass r)

-- row r of NestedClass says that row n of TypeDef stands in another
pub record IsNesting (m : Contents) (n r : ℕ) : Type 0 where
  pub low : 1 ≤ r
  pub high : r ≤ rows_of m tables.NestedClass
  pub nested : (nesting m r).nested ≡ n

-- the row round row n of TypeDef, which the first such row says
abbrev pub IsOuterRow : Contents → ℕ → Option ℕ → Type 0
IsOuterRow m n (Some outer) = (r : ℕ) × IsLeast (IsNesting m n) r × (outer ≡ (nesting m r).enclosing)
IsOuterRow m n None = (r : ℕ) → IsNesting m n r → ⊥

-- for each row of TypeDef the one round it
pub record AreOuters (m : Contents) (outers : List (Option ℕ)) : Type 0 where
  pub long : length outers ≡ rows_of m tables.TypeDef
  pub each : (k : ℕ) (outer : Option ℕ) → slice_get outers k ≡ Some outer → IsOuterRow m (k + 1) outer

-- ---- inner facts

-- a row of NestedClass was written down
pub record IsPut (row : NestedClassRow) (before after : List (Option ℕ)) : Type 0 where
  pub long : length after ≡ length before
  pub each : (j : ℕ) (outer : Option ℕ) → slice_get after j ≡ Some outer → ((row.nested ≡ j + 1) × (outer ≡ Some row.enclosing)) ⊎ ((row.nested ≢ j + 1) × (slice_get before j ≡ Some outer))

-- row r of NestedClass stands behind row k, and says that row n of TypeDef stands in another
pub record IsNestingBehind (m : Contents) (n k r : ℕ) : Type 0 where
  pub nesting : IsNesting m n r
  pub behind : k < r

-- the row round row n of TypeDef, by the first such row behind row k
abbrev pub IsOuterBehind : Contents → ℕ → ℕ → Option ℕ → Type 0
IsOuterBehind m n k (Some outer) = (r : ℕ) × IsLeast (IsNestingBehind m n k) r × (outer ≡ (nesting m r).enclosing)
IsOuterBehind m n k None = (r : ℕ) → IsNestingBehind m n k r → ⊥

pub record AreOutersBehind (m : Contents) (k : ℕ) (outers : List (Option ℕ)) : Type 0 where
  pub long : length outers ≡ rows_of m tables.TypeDef
  pub each : (j : ℕ) (outer : Option ℕ) → slice_get outers j ≡ Some outer → IsOuterBehind m (j + 1) k outer
