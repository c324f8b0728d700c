-- What the flags of types (ECMA-335 II.23.1.15), fields (II.23.1.5) and methods (II.23.1.10) say.
use Rattle.std.specs.Prelude.{ℕ, ◌%◌, List, [], ◌∷◌, Bool, not, ◌==◌, ◌&&◌, cond, slice_index_or}
use Rattle.std.specs.Int.Bits.{bit_and}
use Rattle.class_rows.specs.declared.row.Access.{Access}
use Rattle.class_rows.specs.declared.row.Access.TheVariants.{Private, PrivateProtected, Internal, Protected, ProtectedInternal, Public}
use Rattle.class_rows.specs.declared.row.Virt.{Virt}
use Rattle.class_rows.specs.declared.row.Virt.TheVariants.{Plain, Virtual, Abstract, Override, SealedOverride}
use Rattle.cli_flags.specs.declared.bits.TypeFlag.{TypeFlag}
use Rattle.cli_flags.specs.declared.bits.TypeFlag.TheVariants as type_flag
use Rattle.cli_flags.specs.declared.bits.MemberFlag.{MemberFlag}
use Rattle.cli_flags.specs.declared.bits.MemberFlag.TheVariants as member_flag

-- ---- who may name it

-- VisibilityMask: NotPublic, Public, NestedPublic, NestedPrivate, NestedFamily, NestedAssembly, NestedFamANDAssem,
-- NestedFamORAssem
abbrev pub visibilities : List Access
visibilities =
    Internal ∷ Public ∷ Public ∷ Private ∷ Protected ∷ Internal ∷ PrivateProtected ∷ ProtectedInternal ∷ []

-- FieldAccessMask and MemberAccessMask: CompilerControlled, Private, FamANDAssem, Assembly, Family, FamORAssem, Public; what
-- the compiler controls is private, as is what has no meaning
abbrev pub accesses : List Access
accesses = Private ∷ Private ∷ PrivateProtected ∷ Internal ∷ Protected ∷ ProtectedInternal ∷ Public ∷ Private ∷ []

-- the masks are the lowest three bits
abbrev pub type_access : ℕ → Access
type_access flags = slice_index_or visibilities (flags % 8) Internal

abbrev pub member_access : ℕ → Access
member_access flags = slice_index_or accesses (flags % 8) Private

-- ---- single flags

abbrev pub type_mask : TypeFlag → ℕ
type_mask type_flag.Interface = 0x20
type_mask type_flag.Abstract = 0x80
type_mask type_flag.Sealed = 0x100

abbrev pub member_mask : MemberFlag → ℕ
member_mask member_flag.Static = 0x10
member_mask member_flag.InitOnly = 0x20
member_mask member_flag.Literal = 0x40
member_mask member_flag.Final = 0x20
member_mask member_flag.Virtual = 0x40
member_mask member_flag.NewSlot = 0x100
member_mask member_flag.Abstract = 0x400

-- the flag with this mask is set
abbrev pub is_set : ℕ → ℕ → Bool
is_set mask flags = not (bit_and flags mask == 0)

abbrev pub has : MemberFlag → ℕ → Bool
has flag flags = is_set (member_mask flag) flags

-- ---- slots (II.10.3, II.15.4.2)

-- a method that takes over the slot of another: the first of these two is for one that none overrides
abbrev pub taking_over : ℕ → Virt
taking_over flags = cond (has member_flag.Final flags) SealedOverride Override

-- a method with a slot of its own; one that none overrides needs none
abbrev pub with_slot : ℕ → Virt
with_slot flags = cond (has member_flag.Abstract flags) Abstract (cond (has member_flag.Final flags) Plain Virtual)

-- A virtual method takes over the slot of one above it, unless it says that it has a new one; where there is none above, it
-- has a new one as well.
abbrev pub virtual_of : ℕ → Bool → Virt
virtual_of flags overrides = cond (overrides && not (has member_flag.NewSlot flags)) (taking_over flags) (with_slot flags)

-- what a method does with slots, where one that it can take over is above it or isn't
abbrev pub virt_of : ℕ → Bool → Virt
virt_of flags overrides = cond (has member_flag.Virtual flags) (virtual_of flags overrides) Plain
