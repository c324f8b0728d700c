-- The frame that an instruction leaves (ECMA-335 III.3 and III.4, the stack transitions).
use Rattle.std.specs.Prelude.{ℕ, zero, ◌+◌, ◌==◌, Bool, true, false, not, List, [], ◌∷◌, ◌++◌, Option, Some, None, slice_get, drop, map, if◌then◌else◌}
use Rattle.std.specs.List.{list_any}
use Rattle.std.specs.Option.{option_to_list}
use Rattle.dc_base.specs.declared.names.MemberId.{MemberId}
use Rattle.dc_base.specs.declared.ty.Ty.{Ty}
use Rattle.dc_base.specs.declared.ty.Prim_.{Prim_}
use Rattle.class_rows.specs.declared.row.Kind.{Kind}
use Rattle.class_rows.specs.declared.row.Kind.TheVariants.{Delegate}
use Rattle.class_rows.specs.declared.row.MemberRow.{MemberRow}
use Rattle.class_rows.specs.Lookups.{class_ty}
use Rattle.cil_rows.specs.declared.row.Row.{Row}
use Rattle.cil_rows.specs.declared.row.Row.TheVariants.{Dup, LoadArgument, ArgumentAddress, LoadLocal, LocalAddress, Null, Truth, Int, Long, Text, Arithmetic, Bitwise, Shift, Unary, Compare, Convert, Leave, Call, New, Function, LoadField, FieldAddress, LoadStatic, StaticAddress, NewArray, Length, LoadElement, ElementAddress, LoadIndirect, Cast, IsInstance, Box, Unbox, UnboxAny}
use Rattle.cil_rows.specs.declared.row.Access.{Access}
use Rattle.cil_rows.specs.declared.row.Access.TheVariants.{Number as NumberAccess, Reference as ReferenceAccess, Typed}
use Rattle.verify_slots.specs.declared.slot.Slot.{Slot}
use Rattle.verify_slots.specs.declared.slot.Slot.TheVariants.{Truth as TruthSlot, Int as IntSlot, Long as LongSlot, Length as LengthSlot, Refs, Lent, Code}
use Rattle.verify_slots.specs.declared.slot.Mark.{Mark}
use Rattle.verify_slots.specs.declared.slot.Mark.TheVariants.{This, Fresh, Other}
use Rattle.verify_slots.specs.declared.slot.Tested.{Tested}
use Rattle.verify_slots.specs.declared.slot.Tested.TheVariants.{Yes, By}
use Rattle.verify_rules.specs.declared.setting.Setting.{Setting}
use Rattle.verify_rules.specs.declared.setting.Spot.{Spot}
use Rattle.verify_rules.specs.declared.held.Held.{Held}
use Rattle.verify_rules.specs.declared.held.Held.TheVariants.{Number, Reference}
use Rattle.verify_rules.specs.Look.{types_of, named_ty, named_member, named_row, method_row, argument}
use Rattle.verify_rules.specs.Held.{held_by, slot_of, number_slot, size_of, element_of}
use Rattle.verify_rules.specs.Puts.{taken, owner_kind, result_of, field_ty}
use Rattle.verify_rules.specs.Kinds.{held_named}
use Rattle.verify_rules.specs.Gap.{used, asks_touch}

-- what an address whose tests were done is: so are those of its copies
abbrev pub settled : List ℕ → Slot → Slot
settled ks (Lent ty (By k)) = if list_any (λ j. j == k) ks then Lent ty Yes else Lent ty (By k)
settled ks slot = slot

-- the slots that it leaves where they are
abbrev pub left : Setting → Row → List Slot → List Slot
left s row frame = map (settled (used s row frame)) (drop (taken s row) frame)

abbrev pub one_of : Ty → Mark → Option Slot
one_of ty mark = Some (Refs (ty ∷ []) mark)

abbrev pub slot_there : Setting → Option Ty → Option Slot
slot_there s None = None
slot_there s (Some ty) = slot_of (types_of s) ty

-- an argument; the receiver is marked as such
abbrev pub argument_slot : Setting → ℕ → Bool → Option Ty → Option Slot
argument_slot s zero false (Some ty) = one_of ty This
argument_slot s k is_static ty = slot_there s ty

abbrev pub is_static_of : Option MemberRow → Bool
is_static_of None = true
is_static_of (Some row) = row.is_static

abbrev pub address_of : Tested → Option Ty → Option Slot
address_of tested None = None
address_of tested (Some ty) = Some (Lent ty tested)

-- numbers: one of 64 bits stays one, and two truths stay a truth
abbrev pub number_of : Slot → Slot
number_of LongSlot = LongSlot
number_of _ = IntSlot

abbrev pub bits_of : Slot → Slot → Slot
bits_of TruthSlot TruthSlot = TruthSlot
bits_of x y = number_of x

abbrev pub lower_of : (Slot → Slot → Slot) → List Slot → Option Slot
lower_of f (y ∷ x ∷ below) = Some (f x y)
lower_of f _ = None

abbrev pub upper_of : (Slot → Option Slot) → List Slot → Option Slot
upper_of f (x ∷ below) = f x
upper_of f [] = None

abbrev pub converted : Prim_ → Slot
converted to = number_of (number_slot to)

-- what is read from an array: of null, what the access could give at least
abbrev pub least_number : Prim_ → Slot
least_number prim = if size_of prim == 1 then TruthSlot else converted prim

abbrev pub element_number : Held → Option Slot
element_number (Number prim) = Some (number_slot prim)
element_number _ = None

abbrev pub upper_held : Option Held → Option Slot
upper_held None = None
upper_held (Some held) = element_number held

abbrev pub number_read : Setting → Prim_ → List Ty → Option Slot
number_read s prim [] = Some (least_number prim)
number_read s prim (array ∷ more) = upper_held (held_named s (element_of array))

abbrev pub elements : List Ty → List Ty
elements [] = []
elements (array ∷ more) = option_to_list (element_of array) ++ elements more

abbrev pub element_read : Setting → Access → Slot → Option Slot
element_read s (NumberAccess prim) (Refs set mark) = number_read s prim set
element_read s ReferenceAccess (Refs set mark) = Some (Refs (elements set) Other)
element_read s (Typed token) (Refs set mark) = slot_there s (named_ty s token)
element_read s access _ = None

abbrev pub array_read : Setting → Access → List Slot → Option Slot
array_read s access (y ∷ x ∷ below) = element_read s access x
array_read s access _ = None

abbrev pub place_read : Setting → Slot → Option Slot
place_read s (Lent ty tested) = slot_of (types_of s) ty
place_read s _ = None

-- objects
abbrev pub array_over : Ty → Ty
array_over ty = record { core = ty.core; arrays = ty.arrays + 1; lent = false }

abbrev pub array_made : Option Ty → Option Slot
array_made None = None
array_made (Some ty) = one_of (array_over ty) Fresh

abbrev pub made_mark : Option Kind → Mark
made_mark (Some Delegate) = Other
made_mark _ = Fresh

abbrev pub object_made : Setting → Option MemberRow → Option Slot
object_made s None = None
object_made s (Some row) = one_of (class_ty row.owner.0) (made_mark (owner_kind s row))

abbrev pub code_of : Option MemberId → Option Slot
code_of None = None
code_of (Some m) = Some (Code m)

abbrev pub instance_held : Setting → Ty → Held → Option Slot
instance_held s ty Reference = one_of ty Other
instance_held s ty _ = one_of (class_ty s.core.now.object.0) Other

abbrev pub instance_of : Setting → Option Ty → Option Slot
instance_of s None = None
instance_of s (Some ty) = instance_held s ty (held_by (types_of s) ty)

abbrev pub cast_to : Option Ty → Option Slot
cast_to None = None
cast_to (Some ty) = one_of ty Other

abbrev pub tested_by : Spot → Bool → Tested
tested_by p true = By p.number
tested_by p false = Yes

-- the slot that it gives, where it gives one
abbrev pub gives_slot : Setting → Spot → Bool → Row → List Slot → Option Slot
gives_slot s p of_this (LoadArgument k) frame = argument_slot s k (is_static_of (method_row s)) (argument s k)
gives_slot s p of_this (ArgumentAddress k) frame = address_of Yes (argument s k)
gives_slot s p of_this (LoadLocal k) frame = slot_there s (slice_get s.locals.now k)
gives_slot s p of_this (LocalAddress k) frame = address_of Yes (slice_get s.locals.now k)
gives_slot s p of_this Null frame = Some (Refs [] Other)
gives_slot s p of_this (Truth b) frame = Some TruthSlot
gives_slot s p of_this (Int n) frame = Some IntSlot
gives_slot s p of_this (Long n) frame = Some LongSlot
gives_slot s p of_this (Text token) frame = one_of (class_ty s.core.now.string.0) Fresh
gives_slot s p of_this (Arithmetic op unsigned checked) frame = lower_of (λ x y. number_of x) frame
gives_slot s p of_this (Bitwise op) frame = lower_of bits_of frame
gives_slot s p of_this (Shift op) frame = lower_of (λ x y. number_of x) frame
gives_slot s p of_this (Unary op) frame = upper_of (λ x. Some (number_of x)) frame
gives_slot s p of_this (Compare test unsigned) frame = Some TruthSlot
gives_slot s p of_this (Convert to unsigned checked) frame = Some (converted to)
gives_slot s p of_this (Call callee by_slot) frame = slot_there s (result_of (named_row s callee))
gives_slot s p of_this (New token) frame = object_made s (named_row s token)
gives_slot s p of_this (Function target by_slot) frame = code_of (named_member s target)
gives_slot s p of_this (LoadField token) frame = slot_there s (field_ty (named_row s token))
gives_slot s p of_this (FieldAddress token) frame = address_of (tested_by p (not of_this)) (field_ty (named_row s token))
gives_slot s p of_this (LoadStatic token) frame = slot_there s (field_ty (named_row s token))
gives_slot s p of_this (StaticAddress token) frame = address_of (tested_by p (asks_touch s token)) (field_ty (named_row s token))
gives_slot s p of_this (NewArray token) frame = array_made (named_ty s token)
gives_slot s p of_this Length frame = Some LengthSlot
gives_slot s p of_this (LoadElement access) frame = array_read s access frame
gives_slot s p of_this (ElementAddress token) frame = address_of (By p.number) (named_ty s token)
gives_slot s p of_this (LoadIndirect access) frame = upper_of (place_read s) frame
gives_slot s p of_this (Cast token) frame = cast_to (named_ty s token)
gives_slot s p of_this (IsInstance token) frame = instance_of s (named_ty s token)
gives_slot s p of_this (Box token) frame = one_of (class_ty s.core.now.object.0) Other
gives_slot s p of_this (Unbox token) frame = address_of (By p.number) (named_ty s token)
gives_slot s p of_this (UnboxAny token) frame = slot_there s (named_ty s token)
gives_slot s p of_this _ frame = None

abbrev pub given_slots : Setting → Spot → Bool → Row → List Slot → List Slot
given_slots s p of_this Dup (x ∷ below) = x ∷ x ∷ []
given_slots s p of_this row frame = option_to_list (gives_slot s p of_this row frame)

-- the frame behind the instruction; a `leave` empties the stack. An access to a field of `this` needs no test.
abbrev pub leaves : Setting → Spot → Bool → Row → List Slot → List Slot
leaves s p of_this (Leave to) frame = []
leaves s p of_this row frame = given_slots s p of_this row frame ++ left s row frame
