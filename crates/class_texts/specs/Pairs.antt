-- Which method of an interface a member implements by name (ECMA-334, 18.6.2).
use Rattle.std.specs.Prelude.{◌≡◌, ◌⊎◌, ℕ, ◌+◌, List, [], ◌∷◌, Option, None, Some, All, slice_get, map}
use Rattle.dc_base.specs.declared.names.MemberId.{MemberId}
use Rattle.dc_causes.specs.First.{IsLeast}
use Rattle.class_rows.specs.declared.row.MemberRow.{MemberRow}
use Rattle.class_rows.specs.declared.row.Sort.TheVariants.{Method}
use Rattle.class_rows.specs.Members.{sort_of}
use Rattle.class_written.specs.Named.{Known, named, nothing}
use Rattle.class_written.specs.Forms.{type_id}
use Rattle.class_texts.specs.declared.row.Row.{Row}

-- the numbers of the rows, from `k` on, that implement a method by name
abbrev pub number_by : ℕ → Option (List ℕ × List ℕ) → List ℕ → List ℕ
number_by k None rest = rest
number_by k (Some named) rest = k ∷ rest

abbrev pub implementing_from : ℕ → List Row → List ℕ
implementing_from k [] = []
implementing_from k (r ∷ rows) = number_by k r.implements (implementing_from (k + 1) rows)

-- a method of the interface that has the name, and the parameters and result of the row
pub record IsNamedBy (types : List Known) (rows : List Row) (interface name : List ℕ) (by : MemberRow) (m : ℕ) : Type 0 where
  pub method : Row
  pub stands : slice_get rows m ≡ Some method
  pub owner : method.row.owner ≡ type_id (named types interface)
  pub one_name : method.row.name ≡ name
  pub sort : sort_of method.row.kind ≡ Method
  pub params : method.row.params ≡ by.params
  pub result : method.row.result ≡ by.result

-- the first such method, or a number that names nothing where there is none
abbrev pub IsTarget : List Known → List Row → List ℕ → List ℕ → MemberRow → ℕ → Type 0
IsTarget types rows interface name by m =
    IsLeast (IsNamedBy types rows interface name by) m ⊎ ((m ≡ nothing) × ((n : ℕ) → IsNamedBy types rows interface name by n → ⊥))

pub record IsPair (types : List Known) (rows : List Row) (pair : MemberId × MemberId) : Type 0 where
  pub by : Row
  pub stands : slice_get rows pair.0.0 ≡ Some by
  pub named : List ℕ × List ℕ
  pub implements : by.implements ≡ Some named
  pub target : IsTarget types rows named.0 named.1 by.row pair.1.0

-- a pair for each row that implements a method by name, in order
pub record ArePairs (types : List Known) (rows : List Row) (pairs : List (MemberId × MemberId)) : Type 0 where
  pub each : map (λ (p : MemberId × MemberId). p.0.0) pairs ≡ implementing_from 0 rows
  pub right : All (IsPair types rows) pairs
