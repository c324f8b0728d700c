-- What tokens name (ECMA-335 III.1.9), and the method's own parts.
use Rattle.std.specs.Prelude.{◌≡◌, ℕ, zero, suc, Bool, false, List, Option, Some, None, slice_get, if◌then◌else◌}
use Rattle.dc_base.specs.declared.names.Token.{Token}
use Rattle.dc_base.specs.declared.names.MemberId.{MemberId}
use Rattle.dc_base.specs.declared.ty.Ty.{Ty}
use Rattle.class_rows.specs.declared.row.TypeRow.{TypeRow}
use Rattle.class_rows.specs.declared.row.MemberRow.{MemberRow}
use Rattle.class_rows.specs.declared.row.Param.{Param}
use Rattle.class_rows.specs.Lookups.{class_ty}
use Rattle.cli_assembly.specs.declared.meaning.Named.{Named}
use Rattle.cli_assembly.specs.declared.meaning.Named.TheVariants.{OfType, OfMember, OfText}
use Rattle.cli_assembly.specs.Meaning.{meaning}
use Rattle.verify_rules.specs.declared.setting.Setting.{Setting}

abbrev pub types_of : Setting → List TypeRow
types_of s = s.table.now.types

abbrev pub members_of : Setting → List MemberRow
members_of s = s.table.now.members

-- the type that a token names
abbrev pub ty_meant : Option Named → Option Ty
ty_meant (Some (OfType ty)) = Some ty
ty_meant _ = None

abbrev pub named_ty : Setting → Token → Option Ty
named_ty s token = ty_meant (meaning s.tokens.now token)

-- the member that a token names, and its row
abbrev pub member_meant : Option Named → Option MemberId
member_meant (Some (OfMember m)) = Some m
member_meant _ = None

abbrev pub named_member : Setting → Token → Option MemberId
named_member s token = member_meant (meaning s.tokens.now token)

abbrev pub member_at : List MemberRow → MemberId → Option MemberRow
member_at members m = slice_get members m.0

abbrev pub row_of : List MemberRow → Option MemberId → Option MemberRow
row_of members None = None
row_of members (Some m) = member_at members m

abbrev pub named_row : Setting → Token → Option MemberRow
named_row s token = row_of (members_of s) (named_member s token)

-- the token names a text
abbrev pub IsText : Option Named → Type 0
IsText (Some (OfText text)) = Unit {0}
IsText _ = ⊥

-- the row of the method itself
abbrev pub method_row : Setting → Option MemberRow
method_row s = member_at (members_of s) s.method

-- the type of a parameter; where the method has a receiver this is argument 0
abbrev pub ty_of_param : Option Param → Option Ty
ty_of_param None = None
ty_of_param (Some p) = Some p.ty

abbrev pub argument_behind : MemberRow → ℕ → Option Ty
argument_behind row zero = Some (class_ty row.owner.0)
argument_behind row (suc k) = ty_of_param (slice_get row.params k)

abbrev pub argument_in : MemberRow → Bool → ℕ → Option Ty
argument_in row is_static k = if is_static then ty_of_param (slice_get row.params k) else argument_behind row k

abbrev pub argument_of : Option MemberRow → ℕ → Option Ty
argument_of None k = None
argument_of (Some row) k = argument_in row row.is_static k

abbrev pub argument : Setting → ℕ → Option Ty
argument s k = argument_of (method_row s) k

-- argument 0 of an instance method
abbrev pub IsReceiver : Setting → ℕ → Type 0
IsReceiver s k = (row : MemberRow) × (method_row s ≡ Some row) × (row.is_static ≡ false) × (k ≡ 0)
