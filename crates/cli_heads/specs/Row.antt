-- What the instructions of a head do: which of them make a value, of how many, and what their tokens name.
use Rattle.std.specs.Prelude.{ℕ, zero, suc, ◌+◌, Bool, true, false, ◌&&◌, not, List, Option, Some, None, length, slice_get, unwrap_or, if◌then◌else◌}
use Rattle.dc_base.specs.declared.names.Token.{Token}
use Rattle.dc_base.specs.declared.names.MemberId.{MemberId}
use Rattle.dc_base.specs.declared.ty.Ty.{Ty}
use Rattle.dc_base.specs.declared.ty.Core.{Core}
use Rattle.dc_base.specs.declared.ty.Core.TheVariants.{Void, Class as ClassCore}
use Rattle.class_rows.specs.declared.row.Kind.{Kind}
use Rattle.class_rows.specs.declared.row.Kind.TheVariants.{Delegate}
use Rattle.class_rows.specs.declared.row.TypeRow.{TypeRow}
use Rattle.class_rows.specs.declared.row.MemberRow.{MemberRow}
use Rattle.class_rows.specs.declared.row.MemberKind.{MemberKind}
use Rattle.class_rows.specs.declared.row.MemberKind.TheVariants.{Constructor, Operator}
use Rattle.cil_rows.specs.declared.row.Row.{Row}
use Rattle.cil_rows.specs.declared.row.Row.TheVariants as row
use Rattle.cil_rows.specs.Slots.{takes}
use Rattle.cli_assembly.specs.declared.meaning.Named.{Named}
use Rattle.cli_assembly.specs.declared.meaning.Named.TheVariants.{OfType, OfMember}
use Rattle.cli_assembly.specs.Meaning.{meaning}
use Rattle.cli_heads.specs.declared.maker.Maker.{Maker}

-- ---- what tokens name

abbrev pub ty_meant : Option Named → Option Ty
ty_meant (Some (OfType ty)) = Some ty
ty_meant _ = None

abbrev pub member_meant : Option Named → Option MemberId
member_meant (Some (OfMember m)) = Some m
member_meant _ = None

abbrev pub named_ty : Maker → Token → Option Ty
named_ty s token = ty_meant (meaning s.tokens.now token)

abbrev pub named_member : Maker → Token → Option MemberId
named_member s token = member_meant (meaning s.tokens.now token)

abbrev pub row_of : List MemberRow → Option MemberId → Option MemberRow
row_of members None = None
row_of members (Some m) = slice_get members m.0

abbrev pub named_row : Maker → Token → Option MemberRow
named_row s token = row_of s.table.now.members (named_member s token)

-- ---- members

abbrev pub is_void_core : Core → Bool
is_void_core Void = true
is_void_core _ = false

abbrev pub has_result : Option MemberRow → Bool
has_result None = false
has_result (Some m) = not (is_void_core m.result.core)

abbrev pub is_operator_kind : MemberKind → Bool
is_operator_kind Operator = true
is_operator_kind _ = false

abbrev pub is_operator_member : Option MemberRow → Bool
is_operator_member None = false
is_operator_member (Some m) = is_operator_kind m.kind

abbrev pub is_constructor_kind : MemberKind → Bool
is_constructor_kind Constructor = true
is_constructor_kind _ = false

-- a constructor of objects, and no type initializer
abbrev pub is_constructor : Option MemberRow → Bool
is_constructor None = false
is_constructor (Some m) = is_constructor_kind m.kind && not m.is_static

abbrev pub kind_of : Option TypeRow → Option Kind
kind_of None = None
kind_of (Some t) = Some t.kind

abbrev pub is_delegate : Option Kind → Bool
is_delegate (Some Delegate) = true
is_delegate _ = false

abbrev pub owner_kind : Maker → MemberRow → Option Kind
owner_kind s m = kind_of (slice_get s.table.now.types m.owner.0)

-- how many values a call takes, with its receiver
abbrev pub called_with : Option MemberRow → ℕ
called_with None = 0
called_with (Some m) = if m.is_static then length m.params else length m.params + 1

-- how many values an object is made of; a delegate of its target and a function
abbrev pub made_of : Maker → Option MemberRow → ℕ
made_of s None = 0
made_of s (Some m) = if is_delegate (owner_kind s m) then 2 else length m.params

abbrev pub taken_by_signature : Maker → Row → ℕ
taken_by_signature s (row.Call callee by_slot) = called_with (named_row s callee)
taken_by_signature s (row.New token) = made_of s (named_row s token)
taken_by_signature s _ = 0

-- how many values the row takes
abbrev pub taken : Maker → Row → ℕ
taken s r = unwrap_or (takes r) (taken_by_signature s r)

-- ---- rows

-- a type of which objects are made of by reference
abbrev pub is_class_core : Core → Bool
is_class_core (ClassCore t) = true
is_class_core _ = false

abbrev pub is_reference_without : Core → ℕ → Bool
is_reference_without core zero = is_class_core core
is_reference_without core (suc n) = true

abbrev pub is_reference : Option Ty → Bool
is_reference None = false
is_reference (Some ty) = is_reference_without ty.core ty.arrays

-- argument 0 is `this`, which is no value of a head
abbrev pub is_own_argument : ℕ → Bool
is_own_argument zero = false
is_own_argument (suc k) = true

-- the row makes a value, other than by locals, by a copy of a slot or of `this`
abbrev pub makes_value : Maker → Row → Bool
makes_value s (row.LoadArgument k) = is_own_argument k
makes_value s (row.ArgumentAddress k) = is_own_argument k
makes_value s row.Null = true
makes_value s (row.Truth truth) = true
makes_value s (row.Int n) = true
makes_value s (row.Long n) = true
makes_value s (row.Text token) = true
makes_value s (row.Arithmetic op unsigned checked) = true
makes_value s (row.Bitwise op) = true
makes_value s (row.Shift op) = true
makes_value s (row.Unary op) = true
makes_value s (row.Compare test unsigned) = true
makes_value s (row.Convert to unsigned checked) = true
makes_value s (row.Call callee by_slot) = has_result (named_row s callee)
makes_value s (row.New token) = true
makes_value s (row.Function target by_slot) = true
makes_value s (row.LoadField token) = true
makes_value s (row.FieldAddress token) = true
makes_value s (row.LoadStatic token) = true
makes_value s (row.StaticAddress token) = true
makes_value s (row.NewArray token) = true
makes_value s row.Length = true
makes_value s (row.LoadElement access) = true
makes_value s (row.ElementAddress token) = true
makes_value s (row.LoadIndirect access) = true
makes_value s (row.Cast token) = true
makes_value s (row.IsInstance token) = is_reference (named_ty s token)
makes_value s (row.Box token) = true
makes_value s (row.Unbox token) = true
makes_value s (row.UnboxAny token) = true
makes_value s _ = false

abbrev pub reads_argument : Row → Bool
reads_argument (row.LoadArgument k) = true
reads_argument (row.ArgumentAddress k) = true
reads_argument _ = false

-- the row is an operator in C#: a call of a member that is one counts, and `as`
abbrev pub is_operator : Maker → Row → Bool
is_operator s (row.Arithmetic op unsigned checked) = true
is_operator s (row.Bitwise op) = true
is_operator s (row.Shift op) = true
is_operator s (row.Unary op) = true
is_operator s (row.Compare test unsigned) = true
is_operator s (row.IsInstance token) = true
is_operator s (row.Call callee by_slot) = is_operator_member (named_row s callee)
is_operator s _ = false

-- it takes a value out of a box
abbrev pub unboxes : Maker → Row → Bool
unboxes s (row.Unbox token) = true
unboxes s (row.UnboxAny token) = not (is_reference (named_ty s token))
unboxes s _ = false
