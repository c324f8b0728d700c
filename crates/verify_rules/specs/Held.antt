-- What places hold, as the stack tells values apart (ECMA-335 III.1.1, I.12.1, II.14.3): an enum counts as its primitive
-- type.
use Rattle.std.specs.Prelude.{ℕ, zero, suc, false, List, [], ◌∷◌, Option, Some, None, slice_get, if◌then◌else◌}
use Rattle.dc_base.specs.declared.ty.Ty.{Ty}
use Rattle.dc_base.specs.declared.ty.Core.{Core}
use Rattle.dc_base.specs.declared.ty.Core.TheVariants.{Void, Prim, Class, Value, Enum}
use Rattle.dc_base.specs.declared.ty.Prim_.{Prim_}
use Rattle.dc_base.specs.declared.ty.Prim_.TheVariants.{Bool as BoolPrim, Char, I1, U1, I2, U2, I4, U4, I8, U8}
use Rattle.class_rows.specs.declared.row.TypeRow.{TypeRow}
use Rattle.class_rows.specs.declared.row.Kind.{Kind}
use Rattle.class_rows.specs.declared.row.Kind.TheVariants.{Enum as EnumKind}
use Rattle.verify_slots.specs.declared.slot.Slot.{Slot}
use Rattle.verify_slots.specs.declared.slot.Slot.TheVariants.{Truth, Int, Long, Refs, Opaque as OpaqueSlot, Lent}
use Rattle.verify_slots.specs.declared.slot.Mark.TheVariants.{Other}
use Rattle.verify_slots.specs.declared.slot.Tested.TheVariants.{Yes}
use Rattle.verify_rules.specs.declared.held.Held.{Held}
use Rattle.verify_rules.specs.declared.held.Held.TheVariants.{Nothing, Number, Reference, Opaque, Address}

abbrev pub held_kind : Kind → Held
held_kind (EnumKind prim) = Number prim
held_kind _ = Nothing

abbrev pub held_enum : Option TypeRow → Held
held_enum None = Nothing
held_enum (Some row) = held_kind row.kind

abbrev pub held_core : List TypeRow → Core → Held
held_core types Void = Nothing
held_core types (Prim prim) = Number prim
held_core types (Class t) = Reference
held_core types (Value t) = Opaque t
held_core types (Enum t) = held_enum (slice_get types t.0)

abbrev pub held_brackets : List TypeRow → Core → ℕ → Held
held_brackets types core zero = held_core types core
held_brackets types core (suc n) = Reference

-- what a place of the type holds
abbrev pub held_by : List TypeRow → Ty → Held
held_by types ty = if ty.lent then Address else held_brackets types ty.core ty.arrays

-- the type of the place that is lent
abbrev pub unlent : Ty → Ty
unlent ty = record { core = ty.core; arrays = ty.arrays; lent = false }

-- what is known of a number that was read from a place: a bool is a truth
abbrev pub number_slot : Prim_ → Slot
number_slot BoolPrim = Truth
number_slot I8 = Long
number_slot U8 = Long
number_slot _ = Int

-- what is known of a value that was read from a place of the type, where it holds one
abbrev pub slot_held : Ty → Held → Option Slot
slot_held ty Nothing = None
slot_held ty (Number prim) = Some (number_slot prim)
slot_held ty Reference = Some (Refs (ty ∷ []) Other)
slot_held ty (Opaque t) = Some (OpaqueSlot t)
slot_held ty Address = Some (Lent (unlent ty) Yes)

abbrev pub slot_of : List TypeRow → Ty → Option Slot
slot_of types ty = slot_held ty (held_by types ty)

-- how many bytes a number has
abbrev pub size_of : Prim_ → ℕ
size_of BoolPrim = 1
size_of I1 = 1
size_of U1 = 1
size_of Char = 2
size_of I2 = 2
size_of U2 = 2
size_of I4 = 4
size_of U4 = 4
size_of I8 = 8
size_of U8 = 8

-- the element type of an array
abbrev pub element_under : Core → ℕ → Option Ty
element_under core zero = None
element_under core (suc n) = Some (record { core = core; arrays = n; lent = false })

abbrev pub element_of : Ty → Option Ty
element_of ty = if ty.lent then None else element_under ty.core ty.arrays
