-- What may be done with members (ECMA-335 I.8.5.3, II.16.1.2, III.3.19, III.4.2, III.4.21): stores to the receiver and to
-- fields that are written once, receivers of calls, names that may be used, and what delegates are made of.
use Rattle.std.specs.Prelude.{◌≡◌, ◌≢◌, ◌⊎◌, ℕ, zero, Bool, true, false, List, Option, Some, None, length, slice_get, unwrap_or, Contains}
use Rattle.dc_base.specs.declared.names.Token.{Token}
use Rattle.dc_base.specs.declared.names.TypeId.{TypeId}
use Rattle.dc_base.specs.declared.names.MemberId.{MemberId}
use Rattle.dc_base.specs.declared.ty.Ty.{Ty}
use Rattle.dc_base.specs.declared.ty.Core.{Core}
use Rattle.dc_base.specs.declared.ty.Core.TheVariants.{Class as ClassCore}
use Rattle.class_rows.specs.declared.row.Kind.TheVariants.{Delegate}
use Rattle.class_rows.specs.declared.row.MemberRow.{MemberRow}
use Rattle.class_rows.specs.declared.row.MemberKind.{MemberKind}
use Rattle.class_rows.specs.declared.row.MemberKind.TheVariants.{Field}
use Rattle.class_rows.specs.declared.row.Sort.{Sort}
use Rattle.class_rows.specs.declared.row.Sort.TheVariants.{Field as FieldSort, Method as MethodSort, Constructor as ConstructorSort, Indexer as IndexerSort}
use Rattle.class_rows.specs.declared.row.Virt.TheVariants.{Plain}
use Rattle.class_rows.specs.Names.{IsReference as IsOfReferences}
use Rattle.class_rows.specs.Members.{sort_of}
use Rattle.class_rows.specs.Lookups.{class_ty, AreAssignable, IsAssignable, IsAccessible}
use Rattle.cil_rows.specs.declared.row.Row.{Row}
use Rattle.cil_rows.specs.declared.row.Row.TheVariants.{Dup, StoreArgument, ArgumentAddress, Call, New, Function, LoadField, FieldAddress, StoreField, LoadStatic, StaticAddress, StoreStatic}
use Rattle.verify_slots.specs.declared.slot.Slot.{Slot}
use Rattle.verify_slots.specs.declared.slot.Slot.TheVariants.{Refs, Lent, Code}
use Rattle.verify_slots.specs.declared.slot.Mark.TheVariants.{This, Fresh}
use Rattle.verify_rules.specs.declared.setting.Setting.{Setting}
use Rattle.verify_rules.specs.declared.setting.Spot.{Spot}
use Rattle.verify_rules.specs.declared.held.Held.TheVariants.{Reference}
use Rattle.verify_rules.specs.Look.{types_of, members_of, named_member, named_row, member_at, row_of, method_row, IsReceiver}
use Rattle.verify_rules.specs.Held.{held_by}
use Rattle.verify_rules.specs.Slots.{IsMarked, IsNull, Two}
use Rattle.verify_rules.specs.Puts.{owner_kind, this_depth}
use Rattle.verify_rules.specs.Kinds.{IsBehind, IsSo}

-- of what is there the fact holds
abbrev pub IfSo : {A : Type 0} → (A → Type 0) → Option A → Type 0
IfSo Fact None = Unit {0}
IfSo Fact (Some a) = Fact a

-- the receiver of the method stays what it is
abbrev pub KeepsThis : Setting → Row → Type 0
KeepsThis s (StoreArgument k) = IsReceiver s k → ⊥
KeepsThis s (ArgumentAddress k) = IsReceiver s k → ⊥
KeepsThis s _ = Unit {0}

-- a field that is written once: by a constructor of its type on the object that it makes, or by the type's initializer
abbrev pub IsInitOnly : MemberKind → Type 0
IsInitOnly (Field init_only literal) = init_only ≡ true
IsInitOnly _ = ⊥

abbrev pub IsBeside : MemberRow → Bool → MemberRow → Type 0
IsBeside field is_static row = (sort_of row.kind ≡ ConstructorSort) × (row.is_static ≡ is_static) × (row.owner ≡ field.owner)

abbrev pub IsWritable : Setting → Bool → MemberRow → Type 0
IsWritable s is_static field = IsInitOnly field.kind → IsSo (IsBeside field is_static) (method_row s)

abbrev pub IsWritableOn : Setting → Option Slot → MemberRow → Type 0
IsWritableOn s slot field = IsInitOnly field.kind → IsSo (IsBeside field false) (method_row s) × IsSo (IsMarked This) slot

abbrev pub KeepsInitOnly : Setting → Row → List Slot → Type 0
KeepsInitOnly s (StoreField token) frame = IfSo (IsWritableOn s (slice_get frame 1)) (named_row s token)
KeepsInitOnly s (FieldAddress token) frame = IfSo (IsWritableOn s (slice_get frame 0)) (named_row s token)
KeepsInitOnly s (StoreStatic token) frame = IfSo (IsWritable s true) (named_row s token)
KeepsInitOnly s (StaticAddress token) frame = IfSo (IsWritable s true) (named_row s token)
KeepsInitOnly s _ frame = Unit {0}

-- a virtual member that a call on `this` names as C# does by `base`: not one of the class itself, and no accessor of an
-- indexer of a reference
pub record IsByBase (s : Setting) (m : MemberId) (row : MemberRow) : Type 0 where
  pub above : IfSo (λ (method : MemberRow). row.owner ≢ method.owner) (method_row s)
  pub no_indexer : sort_of row.kind ≡ IndexerSort → IsOfReferences (types_of s) row.owner.0 → ⊥
  pub listed : Contains s.by_base.now m

abbrev pub IsAddress : Slot → Type 0
IsAddress (Lent ty tested) = Unit {0}
IsAddress _ = ⊥

-- an instance member that is called as itself: a constructor ends a head on `this`, a virtual member is one of `base` or
-- a value's, and any other has a receiver that is known to be there
abbrev pub IsReceivedBy : Setting → Spot → MemberId → MemberRow → Sort → Slot → Type 0
IsReceivedBy s p m row ConstructorSort slot = IsMarked This slot × (p.ends_head ≡ true)
IsReceivedBy s p m row sort slot =
    IsAddress slot ⊎ (IsMarked This slot × (row.virt ≢ Plain → IsByBase s m row)) ⊎ (IsMarked Fresh slot × (row.virt ≡ Plain))

abbrev pub IsReceived : Setting → Spot → Bool → MemberId → List Slot → MemberRow → Type 0
IsReceived s p true m frame row = sort_of row.kind ≢ ConstructorSort
IsReceived s p false m frame row =
    (row.is_static ≡ true → sort_of row.kind ≢ ConstructorSort)
    × (row.is_static ≡ false → IfSo (IsReceivedBy s p m row (sort_of row.kind)) (slice_get frame (length row.params)))

abbrev pub KeepsReceiver : Setting → Spot → Row → List Slot → Type 0
KeepsReceiver s p (Call callee by_slot) frame =
    IfSo (λ m. IfSo (IsReceived s p by_slot m frame) (member_at (members_of s) m)) (named_member s callee)
KeepsReceiver s p (Function target true) frame = IsBehind s p Dup × (p.is_aim ≡ false)
KeepsReceiver s p _ frame = Unit {0}

-- a delegate is made of a member with the parameters of Invoke and its result, or a reference that may stand there, and
-- of null for a static member, else of a receiver of it
abbrev pub FitsResult : Setting → Ty → Ty → Type 0
FitsResult s from to =
    (from ≡ to) ⊎ ((held_by (types_of s) from ≡ Reference) × (held_by (types_of s) to ≡ Reference) × IsAssignable (types_of s) from to)

abbrev pub IsTarget : Setting → MemberRow → Bool → Slot → Type 0
IsTarget s row true slot = IsNull slot
IsTarget s row false (Refs set mark) = AreAssignable (types_of s) set (class_ty row.owner.0)
IsTarget s row false _ = ⊥

abbrev pub FitsInvoke : Setting → Slot → MemberRow → MemberRow → Type 0
FitsInvoke s target row invoke = (row.params ≡ invoke.params) × FitsResult s row.result invoke.result × IsTarget s row row.is_static target

abbrev pub invoke_of : Setting → TypeId → Option MemberRow
invoke_of s t = row_of (members_of s) (unwrap_or (slice_get s.invokes.now t.0) None)

abbrev pub IsMadeOf : Setting → TypeId → Slot → Slot → Type 0
IsMadeOf s t target (Code m) = IsSo (λ row. IsSo (FitsInvoke s target row) (invoke_of s t)) (member_at (members_of s) m)
IsMadeOf s t target _ = Unit {0}

abbrev pub MakesDelegate : Setting → List Slot → MemberRow → Type 0
MakesDelegate s frame row = owner_kind s row ≡ Some Delegate → Two (IsMadeOf s row.owner) frame

abbrev pub KeepsDelegate : Setting → Row → List Slot → Type 0
KeepsDelegate s (New token) frame = IfSo (MakesDelegate s frame) (named_row s token)
KeepsDelegate s _ frame = Unit {0}

-- the member that an instruction names
abbrev pub token_of : Row → Option Token
token_of (Call callee by_slot) = Some callee
token_of (New token) = Some token
token_of (Function target by_slot) = Some target
token_of (LoadField token) = Some token
token_of (FieldAddress token) = Some token
token_of (StoreField token) = Some token
token_of (LoadStatic token) = Some token
token_of (StaticAddress token) = Some token
token_of (StoreStatic token) = Some token
token_of _ = None

-- the type through which it is reached: an array counts as System.Array
abbrev pub through_core : Setting → Core → ℕ → TypeId
through_core s (ClassCore t) zero = t
through_core s core n = s.core.now.array

abbrev pub through : Setting → Ty → TypeId
through s ty = through_core s ty.core ty.arrays

abbrev pub IsOpenFrom : Setting → MemberId → Option TypeId → MemberRow → Type 0
IsOpenFrom s m by method = IsAccessible (types_of s) (members_of s) method.owner.0 m.0 by

-- it may be named from the method, through a type where one is given
abbrev pub MayBeNamed : Setting → MemberId → Option TypeId → Type 0
MayBeNamed s m by = IsSo (IsOpenFrom s m by) (method_row s)

-- through each type of the receiver
abbrev pub IsReachedBy : Setting → MemberId → Slot → Type 0
IsReachedBy s m (Refs set mark) = (ty : Ty) → Contains set ty → MayBeNamed s m (Some (through s ty))
IsReachedBy s m _ = Unit {0}

abbrev pub IsReached : Setting → Row → List Slot → MemberId → MemberRow → Type 0
IsReached s (New token) frame m row = MayBeNamed s m (Some row.owner)
IsReached s other frame m row = row.is_static ≡ false → IfSo (IsReachedBy s m) (slice_get frame (this_depth s other))

abbrev pub IsLiteral : MemberKind → Type 0
IsLiteral (Field init_only (Some literal)) = Unit {0}
IsLiteral _ = ⊥

-- what a delegate may be made of: no constructor, no accessor that is printed as one, of references a method alone, and
-- not by its slot what a call on that target could not name
abbrev pub IsAccessor : Sort → Type 0
IsAccessor FieldSort = ⊥
IsAccessor MethodSort = ⊥
IsAccessor ConstructorSort = ⊥
IsAccessor _ = Unit {0}

pub record IsFunction (s : Setting) (by_slot : Bool) (frame : List Slot) (m : MemberId) (row : MemberRow) : Type 0 where
  pub no_constructor : sort_of row.kind ≢ ConstructorSort
  pub not_printed : Contains s.printed.now m → ⊥
  pub no_accessor : IsAccessor (sort_of row.kind) → IsOfReferences (types_of s) row.owner.0 → ⊥
  pub itself : by_slot ≡ false → row.virt ≢ Plain → IsSo (IsMarked This) (slice_get frame 0) × IsByBase s m row

abbrev pub IsFunctionOf : Setting → Row → List Slot → MemberId → MemberRow → Type 0
IsFunctionOf s (Function target by_slot) frame m row = IsFunction s by_slot frame m row
IsFunctionOf s _ frame m row = Unit {0}

pub record IsNamed (s : Setting) (row : Row) (frame : List Slot) (m : MemberId) (member : MemberRow) : Type 0 where
  pub open_ : MayBeNamed s m None
  pub reached : IsReached s row frame m member
  pub shown : Contains s.hidden.now m → ⊥
  pub no_literal : IsLiteral member.kind → ⊥
  pub function : IsFunctionOf s row frame m member

abbrev pub member_named : Setting → Option Token → Option MemberId
member_named s None = None
member_named s (Some token) = named_member s token

abbrev pub KeepsAccess : Setting → Row → List Slot → Type 0
KeepsAccess s row frame = IfSo (λ m. IfSo (IsNamed s row frame m) (member_at (members_of s) m)) (member_named s (token_of row))
