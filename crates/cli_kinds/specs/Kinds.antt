-- What a type is (ECMA-335 II.10.1, II.12, II.13, II.14).
use Rattle.std.specs.Prelude.{ℕ, Bool, false, ◌==◌, ◌&&◌, cond, Option, Some}
use Rattle.dc_base.specs.declared.names.TypeId.{TypeId}
use Rattle.dc_base.specs.declared.ty.Prim_.{Prim_}
use Rattle.class_rows.specs.declared.row.Kind.{Kind}
use Rattle.class_rows.specs.declared.row.Kind.TheVariants as kind
use Rattle.cli_flags.specs.Flags.{is_set, type_mask}
use Rattle.cli_flags.specs.declared.bits.TypeFlag.TheVariants as type_flag
use Rattle.cli_kinds.specs.declared.system.System.{System}

-- this type is its base
abbrev pub is_base : Option TypeId → Option TypeId → Bool
is_base (Some base) (Some system) = base.0 == system.0
is_base _ _ = false

abbrev pub class_kind : ℕ → Kind
class_kind flags =
    cond (is_set (type_mask type_flag.Abstract) flags && is_set (type_mask type_flag.Sealed) flags) kind.StaticClass kind.Class

-- a type that is no interface: its base tells enums, delegates and structs, of which nothing but the members is known, from classes
abbrev pub kind_by_base : System → ℕ → Option TypeId → Prim_ → Kind
kind_by_base system flags base values =
    cond (is_base base system.enums) (kind.Enum values)
    (cond (is_base base system.delegates) kind.Delegate
    (cond (is_base base system.values) kind.Opaque (class_kind flags)))

abbrev pub kind_of : System → ℕ → Option TypeId → Prim_ → Kind
kind_of system flags base values =
    cond (is_set (type_mask type_flag.Interface) flags) kind.Interface (kind_by_base system flags base values)
