-- Which members can't stand where they stand (ECMA-335 II.22.15, II.22.26; ECMA-334 on declarations in a class).
use Rattle.std.specs.Prelude.{◌≡◌, ◌≢◌, ◌⊎◌, ℕ, List, false, codes, Some, slice_get}
use Rattle.dc_base.specs.declared.names.TypeId.{TypeId}
use Rattle.dc_base.specs.declared.names.MemberId.{MemberId}
use Rattle.class_rows.specs.declared.row.TypeRow.{TypeRow}
use Rattle.class_rows.specs.declared.row.MemberRow.{MemberRow}
use Rattle.class_rows.specs.declared.row.Kind.TheVariants.{Interface}
use Rattle.class_rows.specs.declared.row.Sort.TheVariants.{Field as FieldSort}
use Rattle.class_rows.specs.Types.{HasType, IsOuter, InBaseChain}
use Rattle.class_rows.specs.Names.{IsReference}
use Rattle.class_rows.specs.Core.{IsSystem}
use Rattle.class_rows.specs.Members.{HasMember, IsOf, Agree, MayShareName, known_as, sort_of, IsNameless}

-- two members of one type that both have a name
pub record AreBeside (types : List TypeRow) (members : List MemberRow) (explicit : List (MemberId × MemberId)) (m n : ℕ) : Type 0 where
  pub apart : m ≢ n
  pub named : IsNameless types members explicit m → ⊥
  pub other_named : IsNameless types members explicit n → ⊥
  pub a : MemberRow
  pub stands : slice_get members m ≡ Some a
  pub b : MemberRow
  pub other_stands : slice_get members n ≡ Some b
  pub one_owner : a.owner ≡ b.owner

-- another member of the type agrees with it in name, kind, parameters and result
pub record IsAgreeing (types : List TypeRow) (members : List MemberRow) (explicit : List (MemberId × MemberId)) (m : ℕ) : Type 0 where
  pub n : ℕ
  pub beside : AreBeside types members explicit m n
  pub agree : Agree beside.a beside.b

-- in a type of the references another member has its name, and the two may not share it
pub record IsClashing (types : List TypeRow) (members : List MemberRow) (explicit : List (MemberId × MemberId)) (m : ℕ) : Type 0 where
  pub n : ℕ
  pub beside : AreBeside types members explicit m n
  pub reference : IsReference types beside.a.owner.0
  pub one_name : known_as beside.a ≡ known_as beside.b
  pub not_shared : MayShareName beside.a beside.b → ⊥

-- in a type of the references it has the name of a type that is nested in that one
pub record HasNameOfNested (types : List TypeRow) (members : List MemberRow) (explicit : List (MemberId × MemberId)) (m : ℕ) : Type 0 where
  pub row : MemberRow
  pub stands : slice_get members m ≡ Some row
  pub named : IsNameless types members explicit m → ⊥
  pub reference : IsReference types row.owner.0
  pub inner : ℕ
  pub nested : IsOuter types inner row.owner.0
  pub one_name : HasType types inner (λ inside. inside.name ≡ known_as row)

-- System.Object, ValueType, Enum, Array and String, and the types in their base chains, and each interface
pub record IsWithoutFields (types : List TypeRow) (t : ℕ) : Type 0 where
  pub some : HasType types t (λ row. row.kind ≡ Interface) ⊎ ((s : ℕ) × InBaseChain types s t × (
      IsSystem types (codes "Object") s ⊎ IsSystem types (codes "ValueType") s ⊎ IsSystem types (codes "Enum") s
      ⊎ IsSystem types (codes "Array") s ⊎ IsSystem types (codes "String") s))

-- it is an instance field of such a type
abbrev pub IsMisplaced : List TypeRow → List MemberRow → ℕ → Type 0
IsMisplaced types members m =
    HasMember members m (λ row. (sort_of row.kind ≡ FieldSort) × (row.is_static ≡ false) × IsWithoutFields types row.owner.0)

abbrev pub IsDuplicate : List TypeRow → List MemberRow → List (MemberId × MemberId) → ℕ → Type 0
IsDuplicate types members explicit m =
    IsAgreeing types members explicit m ⊎ IsClashing types members explicit m
    ⊎ HasNameOfNested types members explicit m ⊎ IsMisplaced types members m

abbrev pub MembersAreUnique : List TypeRow → List MemberRow → List (MemberId × MemberId) → Type 0
MembersAreUnique types members explicit = (m : ℕ) → IsDuplicate types members explicit m → ⊥
