-- What is asked of one row of types or members.
use Rattle.std.specs.Prelude.{◌≡◌, ◌≢◌, ℕ, ◌<◌, List, Option, Some, None, length, slice_get, false}
use Rattle.dc_base.specs.declared.names.TypeId.{TypeId}
use Rattle.dc_base.specs.declared.ty.Ty.{Ty}
use Rattle.class_rows.specs.declared.row.Param.{Param}
use Rattle.class_rows.specs.declared.row.TypeRow.{TypeRow}
use Rattle.class_rows.specs.declared.row.MemberRow.{MemberRow}
use Rattle.class_rows.specs.declared.row.Kind.TheVariants.{Class, Interface}
use Rattle.class_rows.specs.Types.{HasType, IsBase, IsNamed}
use Rattle.class_rows.specs.Names.{IsReference}
use Rattle.class_rows.specs.Members.{HasMember}
use Rattle.class_rows.specs.Bases.{TyNames, MemberNames}

-- the base, where there is one, is a class that is there and not sealed
abbrev pub BaseFits : List TypeRow → Option TypeId → Type 0
BaseFits types None = Unit {0}
BaseFits types (Some b) = HasType types b.0 (λ row. (row.kind ≡ Class) × (row.is_sealed ≡ false))

-- each of them is an interface that is there
abbrev pub InterfacesFit : List TypeRow → List TypeId → Type 0
InterfacesFit types named = (k : ℕ) (i : TypeId) → slice_get named k ≡ Some i → HasType types i.0 (λ row. row.kind ≡ Interface)

pub record RowFits (types : List TypeRow) (row : TypeRow) : Type 0 where
  pub base : BaseFits types row.base
  pub interfaces : InterfacesFit types row.bases

-- what a type names directly above it fits
pub record FitsAbove (types : List TypeRow) (t : ℕ) : Type 0 where
  pub base : (b : ℕ) → IsBase types t b → HasType types b (λ row. (row.kind ≡ Class) × (row.is_sealed ≡ false))
  pub interfaces : (i : ℕ) → IsNamed types t i → HasType types i (λ row. row.kind ≡ Interface)

-- what a type names by its number is there
abbrev pub TyIsThere : List TypeRow → Ty → Type 0
TyIsThere types ty = (n : ℕ) → TyNames ty n → n < length types

abbrev pub ParamsAreThere : List TypeRow → List Param → Type 0
ParamsAreThere types params = (k : ℕ) (p : Param) → slice_get params k ≡ Some p → TyIsThere types p.ty

pub record MemberIsThere (types : List TypeRow) (row : MemberRow) : Type 0 where
  pub result_there : TyIsThere types row.result
  pub params_there : ParamsAreThere types row.params

-- where the type is one of the references, what its members name is there
abbrev pub MembersFit : List TypeRow → List MemberRow → ℕ → Type 0
MembersFit types members t =
    IsReference types t → (m n : ℕ) → HasMember members m (λ row. (row.owner ≡ record { 0 = t }) × MemberNames row n) → n < length types

-- the owner of the member, where it is a type of the references and the member names a type that isn't there
abbrev pub IsBrokenOwner : List TypeRow → MemberRow → Option ℕ → Type 0
IsBrokenOwner types row None = IsReference types row.owner.0 → MemberIsThere types row
IsBrokenOwner types row (Some t) = (t ≡ row.owner.0) × IsReference types t × (MemberIsThere types row → ⊥)
