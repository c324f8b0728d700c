-- What an instruction puts into places of known types: it stores it, passes it, returns or throws it, or uses it as a
-- receiver (ECMA-335 III.1.8.1.2). How many slots an instruction takes and gives (III.3, III.4).
use Rattle.std.specs.Prelude.{◌≡◌, ℕ, zero, ◌+◌, ◌-◌, ◌==◌, Bool, true, List, [], ◌∷◌, Option, Some, None, length, slice_get, unwrap_or, Contains, if◌then◌else◌}
use Rattle.dc_base.specs.declared.names.TypeId.{TypeId}
use Rattle.dc_base.specs.declared.ty.Ty.{Ty}
use Rattle.dc_base.specs.declared.ty.Core.{Core}
use Rattle.dc_base.specs.declared.ty.Core.TheVariants.{Void, Prim, Value, Enum}
use Rattle.dc_base.specs.declared.ty.Prim_.{Prim_}
use Rattle.dc_base.specs.declared.ty.Prim_.TheVariants.{Bool as BoolPrim, Char, I1, U1, I2, U2, I4, U4, I8, U8}
use Rattle.class_rows.specs.declared.row.TypeRow.{TypeRow}
use Rattle.class_rows.specs.declared.row.Kind.{Kind}
use Rattle.class_rows.specs.declared.row.Kind.TheVariants.{Enum as EnumKind, Delegate, Opaque as OpaqueKind, Struct}
use Rattle.class_rows.specs.declared.row.MemberRow.{MemberRow}
use Rattle.class_rows.specs.declared.row.Param.{Param}
use Rattle.class_rows.specs.Lookups.{class_ty, AreAssignable}
use Rattle.cil_rows.specs.declared.row.Row.{Row}
use Rattle.cil_rows.specs.declared.row.Row.TheVariants.{Return, StoreArgument, StoreLocal, Throw, Call, New, Function, LoadField, FieldAddress, StoreField, StoreStatic, StoreElement, StoreIndirect, Box}
use Rattle.cil_rows.specs.declared.row.Access.{Access}
use Rattle.cil_rows.specs.Slots.{takes, gives}
use Rattle.verify_slots.specs.declared.slot.Slot.{Slot}
use Rattle.verify_slots.specs.declared.slot.Slot.TheVariants.{Int, Refs, Opaque as OpaqueSlot, Lent}
use Rattle.verify_slots.specs.declared.slot.Mark.{Mark}
use Rattle.verify_slots.specs.declared.slot.Tested.{Tested}
use Rattle.verify_rules.specs.declared.setting.Setting.{Setting}
use Rattle.verify_rules.specs.declared.held.Held.{Held}
use Rattle.verify_rules.specs.declared.held.Held.TheVariants.{Number, Reference, Opaque, Address}
use Rattle.verify_rules.specs.Look.{types_of, named_ty, named_row, method_row, argument}
use Rattle.verify_rules.specs.Held.{unlent, element_of}
use Rattle.verify_rules.specs.Slots.{IsAt, Is32, Is64, IsReference}

-- what a method gives, where it gives something
abbrev pub given_core : Core → ℕ → Ty → Option Ty
given_core Void zero ty = None
given_core _ _ ty = Some ty

abbrev pub given_ty : Ty → Option Ty
given_ty ty = given_core ty.core ty.arrays ty

abbrev pub result_of : Option MemberRow → Option Ty
result_of None = None
result_of (Some row) = given_ty row.result

abbrev pub count_of : Option Ty → ℕ
count_of None = 0
count_of (Some ty) = 1

-- the kind of the type that a member belongs to
abbrev pub kind_of : Option TypeRow → Option Kind
kind_of None = None
kind_of (Some row) = Some row.kind

abbrev pub owner_kind : Setting → MemberRow → Option Kind
owner_kind s row = kind_of (slice_get (types_of s) row.owner.0)

-- a primitive type is known by its type in System, which stands at its place in the list
abbrev pub primitives : List Prim_
primitives = BoolPrim ∷ Char ∷ I1 ∷ U1 ∷ I2 ∷ U2 ∷ I4 ∷ U4 ∷ I8 ∷ U8 ∷ []

abbrev pub value_among : List TypeId → List Prim_ → TypeId → Core
value_among (u ∷ system) (p ∷ prims) t = if u.0 == t.0 then Prim p else value_among system prims t
value_among [] prims t = Value t
value_among (u ∷ system) [] t = Value t

abbrev pub lent_value : Core → Ty
lent_value core = record { core = core; arrays = 0; lent = true }

-- the receiver of a member of a type: a reference, or the place of a value
abbrev pub this_by : List TypeId → TypeId → Option Kind → Option Ty
this_by system t None = None
this_by system t (Some (EnumKind prim)) = Some (lent_value (Enum t))
this_by system t (Some OpaqueKind) = Some (lent_value (value_among system primitives t))
this_by system t (Some Struct) = Some (lent_value (value_among system primitives t))
this_by system t (Some _) = Some (class_ty t.0)

abbrev pub this_in : Setting → MemberRow → Bool → Option Ty
this_in s row is_static = if is_static then None else this_by s.core.now.prims row.owner (owner_kind s row)

abbrev pub this_of : Setting → Option MemberRow → Option Ty
this_of s None = None
this_of s (Some row) = this_in s row row.is_static

-- the receiver that the instruction uses
abbrev pub this_put : Setting → Row → Option Ty
this_put s (Call callee by_slot) = this_of s (named_row s callee)
this_put s (Function target true) = this_of s (named_row s target)
this_put s (LoadField token) = this_of s (named_row s token)
this_put s (FieldAddress token) = this_of s (named_row s token)
this_put s (StoreField token) = this_of s (named_row s token)
this_put s _ = None

-- the arguments that it passes; a delegate is made of a method and a target
abbrev pub params_of : Option MemberRow → List Param
params_of None = []
params_of (Some row) = row.params

abbrev pub made_by : Option Kind → MemberRow → List Param
made_by (Some Delegate) row = []
made_by _ row = row.params

abbrev pub made_with : Setting → Option MemberRow → List Param
made_with s None = []
made_with s (Some row) = made_by (owner_kind s row) row

abbrev pub arguments : Setting → Row → List Param
arguments s (Call callee by_slot) = params_of (named_row s callee)
arguments s (New token) = made_with s (named_row s token)
arguments s _ = []

-- the place of the upper slot
abbrev pub field_ty : Option MemberRow → Option Ty
field_ty None = None
field_ty (Some row) = Some row.result

abbrev pub top_place : Setting → Row → Option Ty
top_place s Return = result_of (method_row s)
top_place s Throw = Some (class_ty s.core.now.exception.0)
top_place s (StoreArgument k) = argument s k
top_place s (StoreLocal k) = slice_get s.locals.now k
top_place s (StoreField token) = field_ty (named_row s token)
top_place s (StoreStatic token) = field_ty (named_row s token)
top_place s (Box token) = named_ty s token
top_place s _ = None

-- how far below the top the receiver stands
abbrev pub this_depth : Setting → Row → ℕ
this_depth s (StoreField token) = 1
this_depth s row = length (arguments s row)

-- the slot goes to a place of this type
pub data IsPut (s : Setting) (row : Row) (frame : List Slot) (slot : Slot) (ty : Ty) : Type 0 where
  at_top : top_place s row ≡ Some ty → IsAt frame 0 slot → IsPut s row frame slot ty
  as_receiver : this_put s row ≡ Some ty → IsAt frame (this_depth s row) slot → IsPut s row frame slot ty
  as_argument : (k : ℕ) (p : Param) → slice_get (arguments s row) k ≡ Some p → ty ≡ p.ty → IsAt frame (length (arguments s row) - 1 - k) slot → IsPut s row frame slot ty
  through_address : (access : Access) (tested : Tested) → row ≡ StoreIndirect access → IsAt frame 1 (Lent ty tested) → IsAt frame 0 slot → IsPut s row frame slot ty
  into_array : (access : Access) (set : List Ty) (mark : Mark) (array : Ty) → row ≡ StoreElement access → IsAt frame 2 (Refs set mark) → Contains set array → element_of array ≡ Some ty → IsAt frame 0 slot → IsPut s row frame slot ty

-- the kind of the slot is that of what the place holds
abbrev pub FitsNumber : Prim_ → Slot → Type 0
FitsNumber I8 slot = Is64 slot
FitsNumber U8 slot = Is64 slot
FitsNumber _ slot = Is32 slot

abbrev pub FitsKind : Held → Slot → Type 0
FitsKind (Number prim) slot = FitsNumber prim slot
FitsKind Reference slot = IsReference slot
FitsKind (Opaque t) (OpaqueSlot u) = t ≡ u
FitsKind Address (Lent ty tested) = Unit {0}
FitsKind _ slot = ⊥

-- where a bool is wanted it is a truth
abbrev pub FitsTruth : Held → Slot → Type 0
FitsTruth (Number BoolPrim) Int = ⊥
FitsTruth _ slot = Unit {0}

-- each type of a reference may stand there, and an address is of just this type
abbrev pub FitsType : List TypeRow → Ty → Held → Slot → Type 0
FitsType types ty Reference (Refs set mark) = AreAssignable types set ty
FitsType types ty Address (Lent place tested) = place ≡ unlent ty
FitsType types ty _ slot = Unit {0}

-- how many slots the instruction takes and gives
abbrev pub receivers_of : Option MemberRow → ℕ
receivers_of None = 0
receivers_of (Some row) = if row.is_static then 0 else 1

abbrev pub parts_of : Option Kind → MemberRow → ℕ
parts_of (Some Delegate) row = 2
parts_of _ row = length row.params

abbrev pub parts_made : Setting → Option MemberRow → ℕ
parts_made s None = 0
parts_made s (Some row) = parts_of (owner_kind s row) row

abbrev pub taken_by_signature : Setting → Row → ℕ
taken_by_signature s Return = count_of (result_of (method_row s))
taken_by_signature s (Call callee by_slot) = length (params_of (named_row s callee)) + receivers_of (named_row s callee)
taken_by_signature s (New token) = parts_made s (named_row s token)
taken_by_signature s _ = 0

abbrev pub taken : Setting → Row → ℕ
taken s row = unwrap_or (takes row) (taken_by_signature s row)

abbrev pub given_by_signature : Setting → Row → ℕ
given_by_signature s (Call callee by_slot) = count_of (result_of (named_row s callee))
given_by_signature s _ = 0

abbrev pub given : Setting → Row → ℕ
given s row = unwrap_or (gives row) (given_by_signature s row)
