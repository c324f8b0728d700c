-- Which members references to members mean (ECMA-335 II.22.25).
use Rattle.std.specs.Prelude.{◌≡◌, ℕ, ◌<◌, Bool, true, false, List, length, slice_get, Option, Some, None}
use Rattle.dc_base.specs.declared.names.MemberId.{MemberId}
use Rattle.dc_causes.specs.First.{IsLeast}
use Rattle.class_rows.specs.declared.row.TypeRow.{TypeRow}
use Rattle.class_rows.specs.declared.row.MemberRow.{MemberRow}
use Rattle.class_rows.specs.declared.row.Sort.{Sort}
use Rattle.class_rows.specs.declared.row.Sort.TheVariants.{Field as FieldSort}
use Rattle.class_rows.specs.Types.{IsBase}
use Rattle.class_rows.specs.Members.{HasMember, sort_of, types_of}
use Rattle.cli_refs.specs.declared.key.Shape.{Shape}
use Rattle.cli_refs.specs.declared.key.Shape.TheVariants as shape
use Rattle.cli_refs.specs.declared.key.Sought.{Sought}

-- a static method, or one that is called on an object
abbrev pub called : Bool → Shape
called true = shape.Static
called false = shape.Instance

abbrev pub shape_by : Sort → Bool → Shape
shape_by FieldSort is_static = shape.Field
shape_by _ is_static = called is_static

-- what a member is to those who refer to it
abbrev pub shape_of : MemberRow → Shape
shape_of row = shape_by (sort_of row.kind) row.is_static

-- a member has the name and the signature that are sought; which of `ref` and `out` a parameter is, no signature says
pub record IsSought (sought : Sought) (row : MemberRow) : Type 0 where
  pub name : row.name ≡ sought.name.now
  pub shape : shape_of row ≡ sought.shape
  pub params : types_of row ≡ sought.params.now
  pub result : row.result ≡ sought.result

-- the member of this number is such a one of the type t
abbrev pub IsSoughtIn : List MemberRow → Sought → ℕ → ℕ → Type 0
IsSoughtIn members sought t m = HasMember members m (λ row. (row.owner ≡ record { 0 = t }) × IsSought sought row)

-- the first such member of a type that is there or, where it has none, of the nearest base that has one
pub data IsNearest (types : List TypeRow) (members : List MemberRow) (sought : Sought) : ℕ → ℕ → Type 0 where
  in_it : (t m : ℕ) → t < length types → IsLeast (IsSoughtIn members sought t) m → IsNearest types members sought t m
  above : (t b m : ℕ) → ((k : ℕ) → IsSoughtIn members sought t k → ⊥) → IsBase types t b → IsNearest types members sought b m → IsNearest types members sought t m

-- a reference means that member of the type that it names, or none where there is none
abbrev pub IsMemberMeant : List TypeRow → List MemberRow → Sought → Option MemberId → Type 0
IsMemberMeant types members sought (Some m) = IsNearest types members sought sought.parent.0 m.0
IsMemberMeant types members sought None = (m : ℕ) → IsNearest types members sought sought.parent.0 m → ⊥

-- for each reference the member that it means, or none
pub record AreMembersMeant (types : List TypeRow) (members : List MemberRow) (sought : List Sought) (found : List (Option MemberId)) : Type 0 where
  pub long : length found ≡ length sought
  pub each : (q : ℕ) (s : Sought) (m : Option MemberId) → slice_get sought q ≡ Some s → slice_get found q ≡ Some m → IsMemberMeant types members s m
