-- Tests of single members.
use Rattle.std.specs.Prelude.{ℕ, List, Bool, true, false, not, ◌&&◌, ◌==◌, Option, Some, None, length, slice_get, unwrap_or, filter}
use Rattle.std.specs.List.{range_with_len}
use Rattle.std.specs.Str.{bytes_eq}
use Rattle.class_rows.specs.declared.row.MemberRow.{MemberRow}
use Rattle.class_rows.specs.declared.row.Virt.{Virt}
use Rattle.class_rows.specs.declared.row.Virt.TheVariants.{Plain, Virtual, Abstract, Override, SealedOverride}
use Rattle.class_rows.specs.Members.{known_as}

abbrev pub is_override : Virt → Bool
is_override Plain = false
is_override Virtual = false
is_override Abstract = false
is_override Override = true
is_override SealedOverride = true

abbrev pub is_no_override : Option MemberRow → Bool
is_no_override None = false
is_no_override (Some row) = not (is_override row.virt)

-- it is there, no override, and not marked as nameless
abbrev pub may_stand : List MemberRow → List Bool → ℕ → Bool
may_stand members nameless m = is_no_override (slice_get members m) && not (unwrap_or (slice_get nameless m) false)

-- it is one of the type's, and C# knows it by this name
abbrev pub is_known_so : ℕ → List ℕ → Option MemberRow → Bool
is_known_so t name None = false
is_known_so t name (Some row) = (row.owner.0 == t) && bytes_eq (known_as row) name

-- those of a type that C# knows by this name
abbrev pub known_in : List MemberRow → List ℕ → ℕ → List ℕ
known_in members name t = filter (λ m. is_known_so t name (slice_get members m)) (range_with_len 0 (length members))
