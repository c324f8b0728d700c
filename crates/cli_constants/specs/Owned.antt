-- Which rows of Constant are a field's (ECMA-335 II.22.9).
use Rattle.std.specs.Prelude.{◌≡◌, ◌⊎◌, ℕ, ◌+◌, ◌*◌, ◌^◌, ◌≤◌, List, length, slice_get, Some}
use Rattle.dc_causes.specs.First.{IsLeast}
use Rattle.dc_base.specs.declared.names.Token.{Token}
use Rattle.cli_metadata.specs.declared.tables.Table.TheVariants as tables
use Rattle.cli_metadata.specs.Metadata.{Contents, rows_of, row_of, coded_of}
use Rattle.cli_tables.specs.declared.members.ConstantRow.{ConstantRow}
use Rattle.cli_tables.specs.Members.{constant_of}

abbrev pub constant_at : Contents → ℕ → ConstantRow
constant_at m r = constant_of (row_of m tables.Constant r)

-- the token of row f of Field
abbrev pub field_token : ℕ → Token
field_token f = record { 0 = 0x04 * 2 ^ 24 + f }

-- row r of Constant is that of row f of Field
pub record IsConstantOf (m : Contents) (f r : ℕ) : Type 0 where
  pub low : 1 ≤ r
  pub high : r ≤ rows_of m tables.Constant
  pub parent : coded_of (constant_at m r).parent.kind (constant_at m r).parent.cell ≡ Some (field_token f)

-- how many rows there are, from row k on
pub data AreMany (Is : ℕ → Type 0) (last : ℕ) : ℕ → ℕ → Type 0 where
  over : (k : ℕ) → last + 1 ≤ k → AreMany Is last k 0
  one_more : (k n : ℕ) → Is k → AreMany Is last (k + 1) n → AreMany Is last k (n + 1)
  passed : (k n : ℕ) → (Is k → ⊥) → AreMany Is last (k + 1) n → AreMany Is last k n

-- for a row of Field how many rows of Constant are its own, and the first of them
pub record IsOwned (m : Contents) (f : ℕ) (found : ℕ × ℕ) : Type 0 where
  pub count : AreMany (IsConstantOf m f) (rows_of m tables.Constant) 1 found.0
  pub first : IsLeast (IsConstantOf m f) found.1 ⊎ (found.0 ≡ 0)

pub record AreConstants (m : Contents) (constants : List (ℕ × ℕ)) : Type 0 where
  pub long : length constants ≡ rows_of m tables.Field
  pub each : (k : ℕ) (found : ℕ × ℕ) → slice_get constants k ≡ Some found → IsOwned m (k + 1) found
