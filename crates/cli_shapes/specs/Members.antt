-- Which own members fail the conditions of the profile that are asked of members.
use Rattle.std.specs.Prelude.{◌≡◌, ◌⊎◌, ℕ, ◌+◌, ◌<◌, List, [], true, codes, Some, slice_get}
use Rattle.class_rows.specs.declared.row.MemberRow.{MemberRow}
use Rattle.class_rows.specs.declared.row.Param.{Param}
use Rattle.class_rows.specs.declared.row.Kind.TheVariants.{Interface}
use Rattle.class_rows.specs.Types.{HasType}
use Rattle.class_rows.specs.Members.{HasMember}
use Rattle.class_rows.specs.Core.{IsSystem}
use Rattle.class_rows.specs.Lookups.{IsSlot}
use Rattle.cli_shapes.specs.declared.own.Own.{Own}
use Rattle.cli_shapes.specs.Own.{HasOwnMember, IsTold}

-- its type or its result is a place by reference (II.23.2.4, II.23.2.11)
abbrev pub IsLent : Own → ℕ → Type 0
IsLent s k = HasOwnMember s k (λ row. row.result.lent ≡ true)

-- a member of an interface that is static or has a body (II.12.1)
abbrev pub IsFullInInterface : Own → ℕ → Type 0
IsFullInInterface s k =
    HasOwnMember s k (λ row. HasType s.table.now.types row.owner.0 (λ owner. owner.kind ≡ Interface)
    × ((row.is_static ≡ true) ⊎ IsTold s k (λ told. told.has_body ≡ true)))

-- the member is one of System.Object
abbrev pub IsOfObject : Own → ℕ → Type 0
IsOfObject s m = HasMember s.table.now.members m (λ row. IsSystem s.table.now.types (codes "Object") row.owner.0)

-- a member of System.Object introduced its slot (II.10.3)
abbrev pub HasSlotOfObject : Own → ℕ → Type 0
HasSlotOfObject s k =
    (slot : ℕ) × IsSlot s.table.now.types s.table.now.members s.table.now.explicit (s.first_member.0 + k) slot × IsOfObject s slot

abbrev pub IsNamedFinalize : MemberRow → Type 0
IsNamedFinalize row = (row.name ≡ codes "Finalize") × (row.params ≡ [])

-- an override of `Object.Finalize` (I.8.9.6.7): a method of that name without parameters, in a slot of System.Object
abbrev pub IsFinalizer : Own → ℕ → Type 0
IsFinalizer s k = HasOwnMember s k IsNamedFinalize × HasSlotOfObject s k

-- the type of a parameter has more than 32 brackets
pub record HasDeep (params : List Param) : Type 0 where
  pub i : ℕ
  pub param : Param
  pub stands : slice_get params i ≡ Some param
  pub deep : 32 < param.ty.arrays

-- its type, its result, or the type of a parameter has
abbrev pub IsTooDeep : Own → ℕ → Type 0
IsTooDeep s k = HasOwnMember s k (λ row. (32 < row.result.arrays) ⊎ HasDeep row.params)
