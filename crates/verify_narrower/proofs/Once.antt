-- What an instruction leaves is a frame, where it is given one.
use Rattle.std.proofs.Common.{ℕ, zero, suc, Bool, true, false, List, [], ◌∷◌, ◌++◌, Option, Some, None, drop, map, inl, inr, subst, if◌then◌else◌}
use Rattle.std.proofs.lemmas.List.Elements.{Contains-push_cases, Contains-append_cases}
use Rattle.std.specs.Option.{option_to_list}
use Rattle.dc_base.specs.declared.ty.Ty.{Ty}
use Rattle.dc_base.specs.declared.ty.Prim_.{Prim_}
use Rattle.dc_base.specs.declared.ty.Prim_.TheVariants.{Bool as BoolPrim, I8, U8}
use Rattle.dc_base.specs.declared.names.MemberId.{MemberId}
use Rattle.class_rows.specs.declared.row.MemberRow.{MemberRow}
use Rattle.class_rows.specs.Lookups.{class_ty}
use Rattle.cil_rows.specs.declared.row.Row.{Row}
use Rattle.cil_rows.specs.declared.row.Row.TheVariants.{Dup, LoadArgument, ArgumentAddress, LoadLocal, LocalAddress, Null, Truth, Int, Long, Text, Arithmetic, Bitwise, Shift, Unary, Compare, Convert, Leave, Call, New, Function, LoadField, FieldAddress, LoadStatic, StaticAddress, NewArray, Length, LoadElement, ElementAddress, LoadIndirect, Cast, IsInstance, Box, Unbox, UnboxAny}
use Rattle.cil_rows.specs.declared.row.Access.{Access}
use Rattle.cil_rows.specs.declared.row.Access.TheVariants.{Number, Reference, Typed}
use Rattle.verify_slots.specs.declared.slot.Slot.{Slot}
use Rattle.verify_slots.specs.declared.slot.Slot.TheVariants.{Truth as TruthSlot, Long as LongSlot, Refs, Lent}
use Rattle.verify_slots.specs.declared.slot.Tested.{Tested}
use Rattle.verify_slots.specs.declared.slot.Tested.TheVariants.{Yes, By}
use Rattle.verify_rules.specs.declared.setting.Setting.{Setting}
use Rattle.verify_rules.specs.declared.setting.Spot.{Spot}
use Rattle.verify_rules.specs.declared.held.Held.{Held}
use Rattle.verify_rules.specs.declared.held.Held.TheVariants.{Nothing, Number as HeldNumber, Reference as HeldReference, Opaque, Address}
use Rattle.verify_rules.specs.Look.{types_of, named_ty, named_member, named_row, method_row, argument}
use Rattle.verify_rules.specs.Held.{held_by, element_of, number_slot, slot_held}
use Rattle.verify_rules.specs.Puts.{taken, result_of, field_ty}
use Rattle.verify_rules.specs.Kinds.{held_named}
use Rattle.verify_rules.specs.Gap.{used}
use Rattle.verify_rules.specs.Results.{leaves, given_slots, gives_slot, left, settled, slot_there, argument_slot, is_static_of, address_of, number_of, bits_of, lower_of, upper_of, converted, upper_held, number_read, element_read, array_read, place_read, array_made, object_made, code_of, instance_of, instance_held, cast_to}
use Rattle.verify_narrower.specs.Narrower.{IsOnce, HasOnce, IsFrame}
use Rattle.verify_narrower.proofs.Elements.{nothing, once_elements}
use Rattle.verify_narrower.proofs.Taken.{first_of, rest_of}

abbrev pub OnceThere : Option Slot → Type 0
OnceThere None = Unit {0}
OnceThere (Some slot) = HasOnce slot

frame_append : (f g : List Slot) → IsFrame f → IsFrame g → IsFrame (f ++ g)
frame_append f g one two slot has = elim (Contains-append_cases f g slot has) [ inl a ↦ one slot a | inr b ↦ two slot b ]

frame_none : IsFrame []
frame_none slot has = absurd (nothing slot has)

frame_one : (a : Slot) → HasOnce a → IsFrame (a ∷ [])
frame_one a once slot has = elim (Contains-push_cases [] a slot has) [ inl none ↦ absurd (nothing slot none) | inr e ↦ subst HasOnce e once ]

frame_cons : (a : Slot) (f : List Slot) → HasOnce a → IsFrame f → IsFrame (a ∷ f)
frame_cons a f once frame = frame_append (a ∷ []) f (frame_one a once) frame

frame_listed : (o : Option Slot) → OnceThere o → IsFrame (option_to_list o)
frame_listed None once = frame_none
frame_listed (Some a) once = frame_one a once

frame_drop : (n : ℕ) (f : List Slot) → IsFrame f → IsFrame (drop n f)
frame_drop zero f frame = frame
frame_drop (suc n) [] frame = frame_none
frame_drop (suc n) (a ∷ f) frame = frame_drop n f (rest_of a f frame)

settled_address : (b : Bool) (ty : Ty) (k : ℕ) → HasOnce (if b then Lent ty Yes else Lent ty (By k))
settled_address true ty k = tt
settled_address false ty k = tt

settled_once : (ks : List ℕ) (a : Slot) → HasOnce a → HasOnce (settled ks a)
settled_once ks (Refs set mark) once = once
settled_once ks (Lent ty (By k)) once = settled_address _ ty k
settled_once ks _ once = tt

frame_settled : (ks : List ℕ) (f : List Slot) → IsFrame f → IsFrame (map (settled ks) f)
frame_settled ks [] frame = frame_none
frame_settled ks (a ∷ f) frame = frame_cons (settled ks a) (map (settled ks) f) (settled_once ks a (first_of a f frame)) (frame_settled ks f (rest_of a f frame))

once_one : (ty : Ty) → IsOnce (ty ∷ [])
once_one ty = (nothing ty, tt)

number_slot_once : (prim : Prim_) → HasOnce (number_slot prim)
number_slot_once BoolPrim = tt
number_slot_once I8 = tt
number_slot_once U8 = tt
number_slot_once _ = tt

held_once : (ty : Ty) (held : Held) → OnceThere (slot_held ty held)
held_once ty Nothing = tt
held_once ty (HeldNumber prim) = number_slot_once prim
held_once ty HeldReference = once_one ty
held_once ty (Opaque t) = tt
held_once ty Address = tt

there_once : (s : Setting) (o : Option Ty) → OnceThere (slot_there s o)
there_once s None = tt
there_once s (Some ty) = held_once ty (held_by (types_of s) ty)

argument_once : (s : Setting) (k : ℕ) (is_static : Bool) (o : Option Ty) → OnceThere (argument_slot s k is_static o)
argument_once s zero false (Some ty) = once_one ty
argument_once s zero false None = tt
argument_once s zero true o = there_once s o
argument_once s (suc k) is_static o = there_once s o

address_once : (tested : Tested) (o : Option Ty) → OnceThere (address_of tested o)
address_once tested None = tt
address_once tested (Some ty) = tt

number_once : (a : Slot) → HasOnce (number_of a)
number_once LongSlot = tt
number_once _ = tt

bits_once : (a b : Slot) → HasOnce (bits_of a b)
bits_once TruthSlot TruthSlot = tt
bits_once a _ = number_once a

lower_once : (F : Slot → Slot → Slot) → ((a b : Slot) → HasOnce (F a b)) → (f : List Slot) → OnceThere (lower_of F f)
lower_once F each [] = tt
lower_once F each (y ∷ []) = tt
lower_once F each (y ∷ x ∷ f) = each x y

upper_once : (f : List Slot) → OnceThere (upper_of (λ x. Some (number_of x)) f)
upper_once [] = tt
upper_once (x ∷ f) = number_once x

place_once : (s : Setting) (a : Slot) → OnceThere (place_read s a)
place_once s (Lent ty tested) = held_once ty (held_by (types_of s) ty)
place_once s _ = tt

read_once : (s : Setting) (f : List Slot) → OnceThere (upper_of (place_read s) f)
read_once s [] = tt
read_once s (x ∷ f) = place_once s x

least_once : (b : Bool) (prim : Prim_) → HasOnce (if b then TruthSlot else converted prim)
least_once true prim = tt
least_once false prim = number_once (number_slot prim)

upper_held_once : (o : Option Held) → OnceThere (upper_held o)
upper_held_once None = tt
upper_held_once (Some (HeldNumber prim)) = number_slot_once prim
upper_held_once (Some _) = tt

number_read_once : (s : Setting) (prim : Prim_) (set : List Ty) → OnceThere (number_read s prim set)
number_read_once s prim [] = least_once _ prim
number_read_once s prim (array ∷ more) = upper_held_once (held_named s (element_of array))

element_once : (s : Setting) (access : Access) (a : Slot) → HasOnce a → OnceThere (element_read s access a)
element_once s (Number prim) (Refs set mark) once = number_read_once s prim set
element_once s Reference (Refs set mark) once = once_elements set once
element_once s (Typed token) (Refs set mark) once = there_once s (named_ty s token)
element_once s (Number prim) _ once = tt
element_once s Reference _ once = tt
element_once s (Typed token) _ once = tt

array_once : (s : Setting) (access : Access) (f : List Slot) → IsFrame f → OnceThere (array_read s access f)
array_once s access [] frame = tt
array_once s access (y ∷ []) frame = tt
array_once s access (y ∷ x ∷ f) frame = element_once s access x (first_of x f (rest_of y (x ∷ f) frame))

made_once : (o : Option Ty) → OnceThere (array_made o)
made_once None = tt
made_once (Some ty) = once_one _

object_once : (s : Setting) (o : Option MemberRow) → OnceThere (object_made s o)
object_once s None = tt
object_once s (Some row) = once_one (class_ty row.owner.0)

code_once : (o : Option MemberId) → OnceThere (code_of o)
code_once None = tt
code_once (Some m) = tt

instance_by : (s : Setting) (ty : Ty) (held : Held) → OnceThere (instance_held s ty held)
instance_by s ty HeldReference = once_one ty
instance_by s ty _ = once_one (class_ty s.core.now.object.0)

instance_once : (s : Setting) (o : Option Ty) → OnceThere (instance_of s o)
instance_once s None = tt
instance_once s (Some ty) = instance_by s ty (held_by (types_of s) ty)

cast_once : (o : Option Ty) → OnceThere (cast_to o)
cast_once None = tt
cast_once (Some ty) = once_one ty

module _ (s : Setting) (p : Spot) (of_this : Bool) where
  gives_once : (row : Row) (f : List Slot) → IsFrame f → OnceThere (gives_slot s p of_this row f)
  gives_once (LoadArgument k) f frame = argument_once s k (is_static_of (method_row s)) (argument s k)
  gives_once (ArgumentAddress k) f frame = address_once _ _
  gives_once (LoadLocal k) f frame = there_once s _
  gives_once (LocalAddress k) f frame = address_once _ _
  gives_once Null f frame = tt
  gives_once (Truth b) f frame = tt
  gives_once (Int n) f frame = tt
  gives_once (Long n) f frame = tt
  gives_once (Text token) f frame = once_one (class_ty s.core.now.string.0)
  gives_once (Arithmetic op unsigned checked) f frame = lower_once (λ x y. number_of x) (λ x y. number_once x) f
  gives_once (Bitwise op) f frame = lower_once bits_of bits_once f
  gives_once (Shift op) f frame = lower_once (λ x y. number_of x) (λ x y. number_once x) f
  gives_once (Unary op) f frame = upper_once f
  gives_once (Compare test unsigned) f frame = tt
  gives_once (Convert to unsigned checked) f frame = number_once (number_slot to)
  gives_once (Call callee by_slot) f frame = there_once s (result_of (named_row s callee))
  gives_once (New token) f frame = object_once s (named_row s token)
  gives_once (Function target by_slot) f frame = code_once (named_member s target)
  gives_once (LoadField token) f frame = there_once s (field_ty (named_row s token))
  gives_once (FieldAddress token) f frame = address_once _ _
  gives_once (LoadStatic token) f frame = there_once s (field_ty (named_row s token))
  gives_once (StaticAddress token) f frame = address_once _ _
  gives_once (NewArray token) f frame = made_once (named_ty s token)
  gives_once Length f frame = tt
  gives_once (LoadElement access) f frame = array_once s access f frame
  gives_once (ElementAddress token) f frame = address_once _ _
  gives_once (LoadIndirect access) f frame = read_once s f
  gives_once (Cast token) f frame = cast_once (named_ty s token)
  gives_once (IsInstance token) f frame = instance_once s (named_ty s token)
  gives_once (Box token) f frame = once_one (class_ty s.core.now.object.0)
  gives_once (Unbox token) f frame = address_once _ _
  gives_once (UnboxAny token) f frame = there_once s (named_ty s token)
  gives_once _ f frame = tt

  given_once : (row : Row) (f : List Slot) → IsFrame f → IsFrame (given_slots s p of_this row f)
  given_once Dup [] frame = frame_none
  given_once Dup (a ∷ f) frame = frame_cons a (a ∷ []) (first_of a f frame) (frame_one a (first_of a f frame))
  given_once row f frame = frame_listed (gives_slot s p of_this row f) (gives_once row f frame)

  pub leaves_frame : (row : Row) (f : List Slot) → IsFrame f → IsFrame (leaves s p of_this row f)
  leaves_frame (Leave to) f frame = frame_none
  leaves_frame row f frame =
      frame_append (given_slots s p of_this row f) (left s row f) (given_once row f frame)
      (frame_settled (used s row f) (drop (taken s row) f) (frame_drop (taken s row) f frame))
