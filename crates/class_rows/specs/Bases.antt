-- What the types that a type names must be (ECMA-335 II.10.1, II.22.37).
use Rattle.std.specs.Prelude.{◌≡◌, ◌⊎◌, ℕ, ◌<◌, List, Some, slice_get, length, false}
use Rattle.dc_base.specs.declared.names.TypeId.{TypeId}
use Rattle.dc_base.specs.declared.ty.Ty.{Ty}
use Rattle.dc_base.specs.declared.ty.Core.{Core}
use Rattle.dc_base.specs.declared.ty.Core.TheVariants.{Class as ClassCore, Value, Enum as EnumCore}
use Rattle.class_rows.specs.declared.row.Param.{Param}
use Rattle.class_rows.specs.declared.row.TypeRow.{TypeRow}
use Rattle.class_rows.specs.declared.row.MemberRow.{MemberRow}
use Rattle.class_rows.specs.declared.row.Kind.TheVariants.{Class, Interface}
use Rattle.class_rows.specs.Types.{HasType, IsBase, IsNamed}
use Rattle.class_rows.specs.Names.{IsReference}
use Rattle.class_rows.specs.Members.{HasMember}

-- a type names this one by its number
abbrev pub TyNames : Ty → ℕ → Type 0
TyNames ty n =
    (ty.core ≡ ClassCore (record { 0 = n })) ⊎ (ty.core ≡ Value (record { 0 = n })) ⊎ (ty.core ≡ EnumCore (record { 0 = n }))

-- a member names it in its result or in a parameter
abbrev pub MemberNames : MemberRow → ℕ → Type 0
MemberNames row n = TyNames row.result n ⊎ ((k : ℕ) × (p : Param) × (slice_get row.params k ≡ Some p) × TyNames p.ty n)

pub record BasesFit (types : List TypeRow) (members : List MemberRow) (t : ℕ) : Type 0 where
  -- the base is a class that is there and not sealed
  pub base : (b : ℕ) → IsBase types t b → HasType types b (λ row. (row.kind ≡ Class) × (row.is_sealed ≡ false))
  -- what it names as interfaces are interfaces that are there
  pub interfaces : (i : ℕ) → IsNamed types t i → HasType types i (λ row. row.kind ≡ Interface)
  -- where it is a type of the references, the types that its members name are there
  pub own_members : IsReference types t → (m n : ℕ) → HasMember members m (λ row. (row.owner ≡ record { 0 = t }) × MemberNames row n) → n < length types

abbrev pub BasesAreThere : List TypeRow → List MemberRow → Type 0
BasesAreThere types members = (t : ℕ) → BasesFit types members t
