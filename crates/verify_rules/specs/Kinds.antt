-- Which kinds of slots an instruction takes (ECMA-335 III.1.5, III.3, III.4), and what its operands have to name.
use Rattle.std.specs.Prelude.{◌≡◌, ◌≢◌, ◌⊎◌, ℕ, ◌+◌, ◌<◌, ◌≤◌, Bool, true, false, List, Option, Some, None, length, slice_get, Contains}
use Rattle.dc_base.specs.declared.names.Token.{Token}
use Rattle.dc_base.specs.declared.ty.Ty.{Ty}
use Rattle.dc_base.specs.declared.ty.Prim_.{Prim_}
use Rattle.dc_base.specs.declared.ty.Prim_.TheVariants.{I4}
use Rattle.class_rows.specs.declared.row.Kind.{Kind}
use Rattle.class_rows.specs.declared.row.Kind.TheVariants.{Class, StaticClass, Interface, Delegate}
use Rattle.class_rows.specs.declared.row.MemberRow.{MemberRow}
use Rattle.class_rows.specs.declared.row.TypeRow.{TypeRow}
use Rattle.class_rows.specs.declared.row.Sort.TheVariants.{Field as FieldSort, Constructor as ConstructorSort}
use Rattle.class_rows.specs.Members.{sort_of}
use Rattle.cli_assembly.specs.Meaning.{meaning}
use Rattle.cil_rows.specs.declared.row.Row.{Row}
use Rattle.cil_rows.specs.declared.row.Row.TheVariants.{Dup, Pop, LoadArgument, StoreArgument, ArgumentAddress, LoadLocal, StoreLocal, LocalAddress, Text, Arithmetic, Bitwise, Shift, Unary, Compare, Convert, BranchIf, BranchCompare, Switch, Call, New, Function, LoadField, FieldAddress, StoreField, LoadStatic, StaticAddress, StoreStatic, NewArray, Length, LoadElement, ElementAddress, StoreElement, LoadIndirect, StoreIndirect, Cast, IsInstance, Box, Unbox, UnboxAny, Truth as TruthRow}
use Rattle.cil_rows.specs.declared.row.Access.{Access}
use Rattle.cil_rows.specs.declared.row.Access.TheVariants.{Number as NumberAccess, Reference as ReferenceAccess, Typed}
use Rattle.cil_rows.specs.declared.row.Test.{Test}
use Rattle.cil_rows.specs.declared.row.Test.TheVariants.{Equal, Unequal, Greater}
use Rattle.verify_slots.specs.declared.slot.Slot.{Slot}
use Rattle.verify_slots.specs.declared.slot.Slot.TheVariants.{Length as LengthSlot, Refs, Lent, Code}
use Rattle.verify_rules.specs.declared.setting.Setting.{Setting}
use Rattle.verify_rules.specs.declared.setting.Spot.{Spot}
use Rattle.verify_rules.specs.declared.held.Held.{Held}
use Rattle.verify_rules.specs.declared.held.Held.TheVariants.{Nothing, Number, Reference, Opaque, Address}
use Rattle.verify_rules.specs.Look.{types_of, named_ty, named_row, argument, IsText}
use Rattle.verify_rules.specs.Held.{held_by, element_of, size_of}
use Rattle.verify_rules.specs.Slots.{Is32, IsNumber, IsLength, IsReference, IsNull, IsCode, AreOneSize, AreReferences, One, Two, Three}
use Rattle.verify_rules.specs.Puts.{owner_kind, FitsKind}

-- the instruction directly before this one does so
abbrev pub IsBehind : Setting → Spot → Row → Type 0
IsBehind s p row = (k : ℕ) × (p.number ≡ k + 1) × (slice_get s.rows.now k ≡ Some row)

-- there is such a place, and it isn't lent
abbrev pub IsOwnPlace : Option Ty → Type 0
IsOwnPlace None = ⊥
IsOwnPlace (Some ty) = ty.lent ≡ false

abbrev pub IsThere : {A : Type 0} → Option A → Type 0
IsThere None = ⊥
IsThere (Some a) = Unit {0}

-- there is one of which the fact holds
abbrev pub IsSo : {A : Type 0} → (A → Type 0) → Option A → Type 0
IsSo Fact None = ⊥
IsSo Fact (Some a) = Fact a

-- a value that may be copied or dropped
abbrev pub IsKept : Slot → Type 0
IsKept LengthSlot = ⊥
IsKept (Code m) = ⊥
IsKept _ = Unit {0}

-- tests of two slots
abbrev pub IsEquality : Test → Type 0
IsEquality Equal = Unit {0}
IsEquality Unequal = Unit {0}
IsEquality _ = ⊥

-- of two references whether they are one, and by `cgt.un` whether one isn't null
abbrev pub TellsReferences : Test → Bool → Slot → Type 0
TellsReferences Greater true y = IsNull y
TellsReferences test unsigned y = IsEquality test

-- of a length whether it is zero
abbrev pub TellsZero : Test → Bool → Type 0
TellsZero Equal false = Unit {0}
TellsZero Greater true = Unit {0}
TellsZero test unsigned = ⊥

abbrev pub IsLengthTest : Setting → Spot → Test → Bool → Slot → Slot → Type 0
IsLengthTest s p test unsigned x y = IsLength x × Is32 y × TellsZero test unsigned × IsBehind s p (TruthRow false)

abbrev pub IsCompared : Setting → Spot → Test → Bool → Slot → Slot → Type 0
IsCompared s p test unsigned x y =
    AreOneSize x y ⊎ (AreReferences x y × TellsReferences test unsigned y) ⊎ IsLengthTest s p test unsigned x y

abbrev pub IsBranchedOn : Test → Slot → Slot → Type 0
IsBranchedOn test x y = AreOneSize x y ⊎ (AreReferences x y × IsEquality test)

abbrev pub IsCondition : Slot → Type 0
IsCondition x = IsNumber x ⊎ IsReference x ⊎ IsLength x

-- a length is converted to a signed integer of 32 bits alone
abbrev pub IsLengthsType : Prim_ → Bool → Bool → Type 0
IsLengthsType I4 false false = Unit {0}
IsLengthsType to unsigned checked = ⊥

abbrev pub IsConverted : Prim_ → Bool → Bool → Slot → Type 0
IsConverted to unsigned checked x = IsNumber x ⊎ (IsLength x × IsLengthsType to unsigned checked)

-- an access by a mnemonic or a type to a place of this type: a number of that size, a reference, or just the type
abbrev pub IsSized : Prim_ → Held → Type 0
IsSized prim (Number other) = size_of prim ≡ size_of other
IsSized prim _ = ⊥

abbrev pub Accesses : Setting → Access → Ty → Type 0
Accesses s (NumberAccess prim) ty = IsSized prim (held_by (types_of s) ty)
Accesses s ReferenceAccess ty = held_by (types_of s) ty ≡ Reference
Accesses s (Typed token) ty = named_ty s token ≡ Some ty

abbrev pub IsReferenceAccess : Access → Type 0
IsReferenceAccess ReferenceAccess = Unit {0}
IsReferenceAccess _ = ⊥

-- what an access by this finds
abbrev pub held_named : Setting → Option Ty → Option Held
held_named s None = None
held_named s (Some ty) = Some (held_by (types_of s) ty)

abbrev pub held_access : Setting → Access → Option Held
held_access s (NumberAccess prim) = Some (Number prim)
held_access s ReferenceAccess = Some Reference
held_access s (Typed token) = held_named s (named_ty s token)

-- null, one array type, or for references any
abbrev pub AreArrays : Setting → Access → List Ty → Type 0
AreArrays s access set =
    (IsReferenceAccess access ⊎ (length set ≤ 1)) × ((array : Ty) → Contains set array → IsSo (Accesses s access) (element_of array))

abbrev pub IsArrayOf : Setting → Access → Slot → Type 0
IsArrayOf s access (Refs set mark) = AreArrays s access set
IsArrayOf s access _ = ⊥

abbrev pub HasLength : Setting → Slot → Type 0
HasLength s (Refs set mark) =
    ((array : Ty) → Contains set array → IsThere (element_of array)) × ((length set ≤ 1) ⊎ AreArrays s ReferenceAccess set)
HasLength s _ = ⊥

-- an address of such a place
abbrev pub IsAddressOf : Setting → Access → Slot → Type 0
IsAddressOf s access (Lent ty tested) = Accesses s access ty
IsAddressOf s access _ = ⊥

-- a type is read by `ldobj` directly behind its `unbox` alone, and written by no instruction
abbrev pub IsBehindUnbox : Setting → Spot → Access → Type 0
IsBehindUnbox s p (Typed token) = (unboxed : Token) × IsBehind s p (Unbox unboxed)
IsBehindUnbox s p access = Unit {0}

abbrev pub IsUntyped : Access → Type 0
IsUntyped (Typed token) = ⊥
IsUntyped access = Unit {0}

-- types that tokens name
abbrev pub IsElementType : Setting → Ty → Type 0
IsElementType s ty = (held_by (types_of s) ty ≢ Nothing) × (held_by (types_of s) ty ≢ Address) × (ty.arrays < 255)

abbrev pub IsValueHeld : Held → Type 0
IsValueHeld (Number prim) = Unit {0}
IsValueHeld (Opaque t) = Unit {0}
IsValueHeld _ = ⊥

abbrev pub IsAnyHeld : Held → Type 0
IsAnyHeld Nothing = ⊥
IsAnyHeld Address = ⊥
IsAnyHeld _ = Unit {0}

-- members that tokens name
abbrev pub IsInstanceField : MemberRow → Type 0
IsInstanceField row = (sort_of row.kind ≡ FieldSort) × (row.is_static ≡ false)

abbrev pub IsStaticField : MemberRow → Type 0
IsStaticField row = (sort_of row.kind ≡ FieldSort) × (row.is_static ≡ true)

abbrev pub IsReferenceKind : Option Kind → Type 0
IsReferenceKind (Some Class) = Unit {0}
IsReferenceKind (Some StaticClass) = Unit {0}
IsReferenceKind (Some Interface) = Unit {0}
IsReferenceKind (Some Delegate) = Unit {0}
IsReferenceKind _ = ⊥

-- a call by slot is of an instance method of a reference type
abbrev pub HasSlot : Setting → Bool → MemberRow → Type 0
HasSlot s true row = (row.is_static ≡ false) × IsReferenceKind (owner_kind s row)
HasSlot s false row = Unit {0}

abbrev pub IsCalled : Setting → Bool → MemberRow → Type 0
IsCalled s by_slot row = (sort_of row.kind ≢ FieldSort) × HasSlot s by_slot row

abbrev pub IsInstanceConstructor : MemberRow → Type 0
IsInstanceConstructor row = (sort_of row.kind ≡ ConstructorSort) × (row.is_static ≡ false)

-- a class that isn't abstract; a delegate is made of a target and a method as a function
abbrev pub IsMade : Option TypeRow → List Slot → Type 0
IsMade None frame = ⊥
IsMade (Some row) frame =
    ((row.kind ≡ Class) × (row.is_abstract ≡ false)) ⊎ ((row.kind ≡ Delegate) × Two (λ x y. IsReference x × IsCode y) frame)

-- what each instruction asks of the kinds of its slots, besides those of the places that it puts them to
abbrev pub IsTaken : Setting → Spot → Row → List Slot → Type 0
IsTaken s p Dup frame = One IsKept frame
IsTaken s p Pop frame = One IsKept frame
IsTaken s p (LoadArgument k) frame = IsThere (argument s k)
IsTaken s p (StoreArgument k) frame = IsOwnPlace (argument s k)
IsTaken s p (ArgumentAddress k) frame = IsOwnPlace (argument s k)
IsTaken s p (LoadLocal k) frame = IsThere (slice_get s.locals.now k)
IsTaken s p (StoreLocal k) frame = IsOwnPlace (slice_get s.locals.now k)
IsTaken s p (LocalAddress k) frame = IsOwnPlace (slice_get s.locals.now k)
IsTaken s p (Text token) frame = IsText (meaning s.tokens.now token)
IsTaken s p (Arithmetic op unsigned checked) frame = Two AreOneSize frame
IsTaken s p (Bitwise op) frame = Two AreOneSize frame
IsTaken s p (Shift op) frame = Two (λ x y. IsNumber x × Is32 y) frame
IsTaken s p (Unary op) frame = One IsNumber frame
IsTaken s p (Compare test unsigned) frame = Two (IsCompared s p test unsigned) frame
IsTaken s p (Convert to unsigned checked) frame = One (IsConverted to unsigned checked) frame
IsTaken s p (BranchIf truth to) frame = One IsCondition frame
IsTaken s p (BranchCompare test unsigned to) frame = Two (IsBranchedOn test) frame
IsTaken s p (Switch targets) frame = One Is32 frame
IsTaken s p (Call callee by_slot) frame = IsSo (IsCalled s by_slot) (named_row s callee)
IsTaken s p (New token) frame = IsSo (λ row. IsInstanceConstructor row × IsMade (slice_get (types_of s) row.owner.0) frame) (named_row s token)
IsTaken s p (Function target by_slot) frame = IsSo (IsCalled s by_slot) (named_row s target)
IsTaken s p (LoadField token) frame = IsSo IsInstanceField (named_row s token)
IsTaken s p (FieldAddress token) frame = IsSo IsInstanceField (named_row s token)
IsTaken s p (StoreField token) frame = IsSo IsInstanceField (named_row s token)
IsTaken s p (LoadStatic token) frame = IsSo IsStaticField (named_row s token)
IsTaken s p (StaticAddress token) frame = IsSo IsStaticField (named_row s token)
IsTaken s p (StoreStatic token) frame = IsSo IsStaticField (named_row s token)
IsTaken s p (NewArray token) frame = IsSo (IsElementType s) (named_ty s token) × One Is32 frame
IsTaken s p Length frame = One (HasLength s) frame
IsTaken s p (LoadElement access) frame = IsThere (held_access s access) × Two (λ x y. IsArrayOf s access x × Is32 y) frame
IsTaken s p (ElementAddress token) frame = IsThere (named_ty s token) × Two (λ x y. IsArrayOf s (Typed token) x × Is32 y) frame
IsTaken s p (StoreElement access) frame = Three (λ x y z. IsArrayOf s access x × Is32 y × IsSo (λ held. FitsKind held z) (held_access s access)) frame
IsTaken s p (LoadIndirect access) frame = One (IsAddressOf s access) frame × IsBehindUnbox s p access
IsTaken s p (StoreIndirect access) frame = Two (λ x y. IsAddressOf s access x) frame × IsUntyped access
IsTaken s p (Cast token) frame = IsSo (λ ty. held_by (types_of s) ty ≡ Reference) (named_ty s token) × One IsReference frame
IsTaken s p (IsInstance token) frame = IsSo (λ ty. IsAnyHeld (held_by (types_of s) ty)) (named_ty s token) × One IsReference frame
IsTaken s p (Box token) frame = IsSo (λ ty. IsValueHeld (held_by (types_of s) ty)) (named_ty s token)
IsTaken s p (Unbox token) frame = IsSo (λ ty. IsValueHeld (held_by (types_of s) ty)) (named_ty s token) × One IsReference frame
IsTaken s p (UnboxAny token) frame = IsSo (λ ty. IsAnyHeld (held_by (types_of s) ty)) (named_ty s token) × One IsReference frame
IsTaken s p _ frame = Unit {0}
