-- Inner facts: explicit implementations, by the type that has one.
use Rattle.std.specs.Prelude.{◌≡◌, ℕ, ◌<◌, List, Option, Some, None, length, slice_get, Contains}
use Rattle.dc_base.specs.declared.names.MemberId.{MemberId}
use Rattle.class_rows.specs.declared.row.MemberRow.{MemberRow}
use Rattle.class_rows.specs.Members.{IsOf}

-- a member of the type b implements m explicitly
abbrev pub IsPairOf : List MemberRow → List (MemberId × MemberId) → ℕ → ℕ → Type 0
IsPairOf members explicit b m = (x : ℕ) × IsOf members b x × Contains explicit (record { 0 = x }, record { 0 = m })

-- the pair at this index is one of the type t
abbrev pub OwnsPair : List MemberRow → List (MemberId × MemberId) → ℕ → ℕ → Type 0
OwnsPair members explicit t p = (pair : MemberId × MemberId) × (slice_get explicit p ≡ Some pair) × IsOf members t pair.0.0

-- this is the last pair of a type before an index, and from it on lead those before it
pub data IsLastOf (members : List MemberRow) (explicit : List (MemberId × MemberId)) (before : List (Option ℕ)) (t : ℕ) : ℕ → Option ℕ → Type 0 where
  no_more : (k : ℕ) → ((p : ℕ) → p < k → OwnsPair members explicit t p → ⊥) → IsLastOf members explicit before t k None
  one_more : (k p : ℕ) (o : Option ℕ) → p < k → OwnsPair members explicit t p → ((q : ℕ) → p < q → q < k → OwnsPair members explicit t q → ⊥) → slice_get before p ≡ Some o → IsLastOf members explicit before t p o → IsLastOf members explicit before t k (Some p)

-- the first so many pairs, by so many types
pub record AreByType (members : List MemberRow) (explicit : List (MemberId × MemberId)) (count k : ℕ) (last before : List (Option ℕ)) : Type 0 where
  pub wide : length last ≡ count
  pub long : length before ≡ k
  pub lasts : (t : ℕ) (o : Option ℕ) → slice_get last t ≡ Some o → IsLastOf members explicit before t k o
