-- The names of the parameters of methods (ECMA-335 II.22.33).
use Rattle.std.specs.Prelude.{◌≡◌, ℕ, ◌+◌, ◌≤◌, List, [], length, slice_get, Option, Some, None}
use Rattle.dc_causes.specs.First.{IsLeast}
use Rattle.cli_metadata.specs.declared.tables.Table.TheVariants as tables
use Rattle.cli_metadata.specs.Metadata.{Contents, rows_of, row_of}
use Rattle.cli_tables.specs.declared.members.ParamRow.{ParamRow}
use Rattle.cli_tables.specs.Members.{param_of}
use Rattle.cli_lists.specs.declared.column.ListColumn.{ListColumn}
use Rattle.cli_lists.specs.Starts.{IsInList}
use Rattle.cli_names.specs.Texts.{IsTextAt}

abbrev pub param_at : Contents → ℕ → ParamRow
param_at m r = param_of (row_of m tables.Param r)

-- row r of Param, in the list of row k of MethodDef, is that of its parameter i, counted from 1; 0 is the result's
pub record IsParamOf (m : Contents) (params : ListColumn) (k i r : ℕ) : Type 0 where
  pub listed : IsInList params.rows params.cells k r
  pub number : (param_at m r).sequence ≡ i

-- the first such row
abbrev pub IsParamRow : Contents → ListColumn → ℕ → ℕ → Option ℕ → Type 0
IsParamRow m params k i (Some r) = IsLeast (IsParamOf m params k i) r
IsParamRow m params k i None = (r : ℕ) → IsParamOf m params k i r → ⊥

-- its name; a parameter without a row has the empty one
abbrev pub IsNameIn : Contents → Option ℕ → List ℕ → Type 0
IsNameIn m (Some r) name = IsTextAt m (param_at m r).name name
IsNameIn m None name = name ≡ []

pub record IsParamName (m : Contents) (params : ListColumn) (k i : ℕ) (name : List ℕ) : Type 0 where
  pub row : Option ℕ
  pub first : IsParamRow m params k i row
  pub named : IsNameIn m row name

-- the names of the first parameters of row k of MethodDef
pub record AreParamNames (m : Contents) (params : ListColumn) (k count : ℕ) (names : List (List ℕ)) : Type 0 where
  pub long : length names ≡ count
  pub each : (j : ℕ) (name : List ℕ) → slice_get names j ≡ Some name → IsParamName m params k (j + 1) name

-- the table of parameters has a row of this number
pub record IsRow (m : Contents) (r : ℕ) : Type 0 where
  pub low : 1 ≤ r
  pub high : r ≤ rows_of m tables.Param
