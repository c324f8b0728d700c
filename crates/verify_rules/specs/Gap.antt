-- What may stand between the making of an address and its use, and what may stand over a jump. Making an address may fault,
-- and C# makes it where it is used: so nothing may come between that could tell the difference.
use Rattle.std.specs.Prelude.{◌≡◌, ◌⊎◌, ℕ, ◌<◌, Bool, true, false, List, [], ◌∷◌, Option, Some, None, length, slice_get, unwrap_or, take, drop, Contains}
use Rattle.std.specs.List.{flat_map}
use Rattle.dc_base.specs.declared.names.Token.{Token}
use Rattle.class_rows.specs.declared.row.Kind.TheVariants.{Class}
use Rattle.class_rows.specs.declared.row.MemberRow.{MemberRow}
use Rattle.cil_rows.specs.declared.row.Row.{Row}
use Rattle.cil_rows.specs.declared.row.Row.TheVariants.{Dup, Pop, StoreArgument, LoadArgument, StoreLocal, Arithmetic, Convert, Branch, BranchIf, BranchCompare, Switch, Leave, Throw, Rethrow, EndFinally, Call, New, Function, LoadField, StoreField, LoadStatic, StaticAddress, StoreStatic, NewArray, Length, LoadElement, ElementAddress, StoreElement, LoadIndirect, StoreIndirect, Cast, Box, Unbox, UnboxAny}
use Rattle.cil_rows.specs.declared.row.Operator.{Operator}
use Rattle.cil_rows.specs.declared.row.Operator.TheVariants.{Div, Rem}
use Rattle.verify_slots.specs.declared.slot.Slot.{Slot}
use Rattle.verify_slots.specs.declared.slot.Slot.TheVariants.{Lent}
use Rattle.verify_slots.specs.declared.slot.Tested.TheVariants.{By}
use Rattle.verify_rules.specs.declared.setting.Setting.{Setting}
use Rattle.verify_rules.specs.declared.setting.Spot.{Spot}
use Rattle.verify_rules.specs.declared.held.Held.TheVariants.{Reference}
use Rattle.verify_rules.specs.Look.{types_of, named_ty, named_row, method_row}
use Rattle.verify_rules.specs.Held.{held_by}
use Rattle.verify_rules.specs.Slots.{One, IsAt, IsBy, IsCode, IsFleeting}
use Rattle.verify_rules.specs.Puts.{owner_kind, arguments, taken}
use Rattle.verify_rules.specs.Kinds.{IsBehind, IsSo}

-- an access to a field directly behind a push of the receiver of a method of a class, to which no other way leads
pub record IsOfThis (s : Setting) (p : Spot) : Type 0 where
  pub behind : IsBehind s p (LoadArgument 0)
  pub method : MemberRow
  pub is : method_row s ≡ Some method
  pub instance : method.is_static ≡ false
  pub of_class : owner_kind s method ≡ Some Class
  pub no_aim : p.is_aim ≡ false
  pub within : p.begins_region ≡ false

-- a static field's type is asked about first
abbrev pub touches_owner : Setting → Option MemberRow → Bool
touches_owner s None = true
touches_owner s (Some row) = unwrap_or (slice_get s.touching.now row.owner.0) true

abbrev pub asks_touch : Setting → Token → Bool
asks_touch s token = touches_owner s (named_row s token)

-- the addresses with tests of their own among some slots, by the numbers of their makers
abbrev pub makers_of : Slot → List ℕ
makers_of (Lent ty (By k)) = k ∷ []
makers_of _ = []

abbrev pub makers : List Slot → List ℕ
makers slots = flat_map makers_of slots

-- those that the instruction uses: `dup` copies them
abbrev pub used_in : Row → List Slot → List ℕ
used_in Dup operands = []
used_in _ operands = makers operands

abbrev pub used : Setting → Row → List Slot → List ℕ
used s row frame = used_in row (take (taken s row) frame)

-- it may fault, ask, or change the heap, a local or an argument; the making of one more address is no such thing
abbrev pub IsDivision : Operator → Type 0
IsDivision Div = Unit {0}
IsDivision Rem = Unit {0}
IsDivision _ = ⊥

abbrev pub IsTested : Slot → Type 0
IsTested (Lent ty (By k)) = Unit {0}
IsTested _ = ⊥

abbrev pub Disturbs : Setting → Spot → Row → List Slot → Type 0
Disturbs s p (Arithmetic op unsigned checked) frame = IsDivision op ⊎ (checked ≡ true)
Disturbs s p (Convert to unsigned checked) frame = checked ≡ true
Disturbs s p (LoadField token) frame = IsOfThis s p → ⊥
Disturbs s p (LoadStatic token) frame = asks_touch s token ≡ true
Disturbs s p (LoadIndirect access) frame = One IsTested frame
Disturbs s p (Function target true) frame = Unit {0}
Disturbs s p (Call callee by_slot) frame = Unit {0}
Disturbs s p (New token) frame = Unit {0}
Disturbs s p (StoreField token) frame = Unit {0}
Disturbs s p (StoreStatic token) frame = Unit {0}
Disturbs s p (StoreLocal k) frame = Unit {0}
Disturbs s p (StoreArgument k) frame = Unit {0}
Disturbs s p (StoreElement access) frame = Unit {0}
Disturbs s p (StoreIndirect access) frame = Unit {0}
Disturbs s p (LoadElement access) frame = Unit {0}
Disturbs s p (NewArray token) frame = Unit {0}
Disturbs s p Length frame = Unit {0}
Disturbs s p (Cast token) frame = Unit {0}
Disturbs s p (Box token) frame = Unit {0}
Disturbs s p (Unbox token) frame = Unit {0}
Disturbs s p (UnboxAny token) frame = Unit {0}
Disturbs s p Throw frame = Unit {0}
Disturbs s p Rethrow frame = Unit {0}
Disturbs s p _ frame = ⊥

-- besides, it reads the heap
abbrev pub Reads : Row → Type 0
Reads (LoadField token) = Unit {0}
Reads (LoadStatic token) = Unit {0}
Reads (LoadIndirect access) = Unit {0}
Reads _ = ⊥

-- the maker asks a question
abbrev pub IsTouching : Setting → ℕ → Type 0
IsTouching s k = (token : Token) × (slice_get s.rows.now k ≡ Some (StaticAddress token))

-- the maker made the address of an element that is a reference
abbrev pub IsOfReferenceElement : Setting → ℕ → Type 0
IsOfReferenceElement s k =
    (token : Token) × (slice_get s.rows.now k ≡ Some (ElementAddress token)) × IsSo (λ ty. held_by (types_of s) ty ≡ Reference) (named_ty s token)

abbrev pub MayCopy : Setting → Row → ℕ → Type 0
MayCopy s Dup k = IsTouching s k → ⊥
MayCopy s Pop k = ⊥
MayCopy s _ k = Unit {0}

abbrev pub MayUse : Setting → Row → ℕ → ℕ → Type 0
MayUse s Dup depth k = Unit {0}
MayUse s row depth k = IsOfReferenceElement s k → depth < length (arguments s row)

-- nothing stands between the making of an address and its first use that could tell when it was made
pub record HasNoGap (s : Setting) (p : Spot) (row : Row) (frame : List Slot) : Type 0 where
  pub quiet : (k : ℕ) → Contains (makers frame) k → (Contains (used s row frame) k → ⊥) → Disturbs s p row frame → ⊥
  pub untouched : (k : ℕ) → Contains (makers frame) k → (Contains (used s row frame) k → ⊥) → IsTouching s k → Reads row → ⊥
  pub kept : (k : ℕ) → Contains (makers (take 1 frame)) k → MayCopy s row k
  pub passed : (depth k : ℕ) (slot : Slot) → IsAt frame depth slot → depth < taken s row → IsBy k slot → MayUse s row depth k
  pub alone : (j k : ℕ) → Contains (used s row frame) j → Contains (makers (drop (taken s row) frame)) k → Contains (used s row frame) k

-- jumps and ends of regions
abbrev pub Jumps : Row → Type 0
Jumps (Branch to) = Unit {0}
Jumps (BranchIf truth to) = Unit {0}
Jumps (BranchCompare test unsigned to) = Unit {0}
Jumps (Switch targets) = Unit {0}
Jumps (Leave to) = Unit {0}
Jumps EndFinally = Unit {0}
Jumps _ = ⊥

-- lengths, addresses and methods stand at no aim and over no jump, and a method is taken by the next instruction
pub record KeepsBorder (s : Setting) (p : Spot) (row : Row) (frame : List Slot) : Type 0 where
  pub at_aim : p.is_aim ≡ true → (slot : Slot) → Contains frame slot → IsFleeting slot → ⊥
  pub over_jump : Jumps row → (slot : Slot) → Contains (drop (taken s row) frame) slot → IsFleeting slot → ⊥
  pub taken_next : (slot : Slot) → Contains (drop (taken s row) frame) slot → IsCode slot → ⊥
