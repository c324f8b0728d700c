-- Sets of types: each type stands once, in the order of types.
use Rattle.std.specs.Prelude.{◌≡◌, ℕ, ◌<◌, List, length, slice_index_or, Contains}
use Rattle.std.specs.declared.cmp.Ordering.{Ordering}
use Rattle.std.specs.declared.cmp.Ordering.TheVariants.{Less}
use Rattle.dc_base.specs.declared.ty.Ty.{Ty}
use Rattle.verify_slots.specs.declared.slot.Slot.{Slot}
use Rattle.verify_slots.specs.declared.slot.Slot.TheVariants.{Refs}
use Rattle.verify_slots.specs.Slots.{IsSubset}

abbrev pub IsSet : (Ty → Ty → Ordering) → List Ty → Type 0
IsSet cmp set = (i j : ℕ) (d : Ty) → i < j → j < length set → cmp (slice_index_or set i d) (slice_index_or set j d) ≡ Less

-- the set of a slot is one
abbrev pub HasSet : (Ty → Ty → Ordering) → Slot → Type 0
HasSet cmp (Refs set mark) = IsSet cmp set
HasSet cmp _ = Unit {0}

-- one more type is in it, and nothing else
pub record IsPut (before : List Ty) (ty : Ty) (after : List Ty) : Type 0 where
  pub kept : IsSubset before after
  pub there : Contains after ty
  pub least : (set : List Ty) → IsSubset before set → Contains set ty → IsSubset after set
