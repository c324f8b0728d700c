-- Methods whose code isn't that of the file's own instructions, and own delegates, whose methods the runtime makes
-- (ECMA-335 II.14.6, II.22.26, II.22.37, II.23.1.11).
use Rattle.std.specs.Prelude.{◌≡◌, ◌≢◌, ◌⊎◌, ℕ, ◌≤◌, List, Some, codes}
use Rattle.std.specs.Int.Bits.{bit_and}
use Rattle.dc_base.specs.declared.names.Token.{Token}
use Rattle.cli_metadata.specs.declared.coded_index.Coded.TheVariants.{TypeDefOrRef}
use Rattle.cli_metadata.specs.declared.tables.Table.{Table}
use Rattle.cli_metadata.specs.declared.tables.Table.TheVariants.{TypeRef, TypeDef, MethodDef}
use Rattle.cli_metadata.specs.Metadata.{Contents, rows_of, row_of, token_of, coded_of, IsString}
use Rattle.cli_tables.specs.Types.{type_ref_of, type_def_of}
use Rattle.cli_tables.specs.Members.{method_def_of}
use Rattle.cli_lists.specs.Starts.{IsInList}
use Rattle.cli_lists.specs.Lists.{lists_of}

-- the table has a row of this number; rows count from 1
pub record IsRow (m : Contents) (table : Table) (n : ℕ) : Type 0 where
  pub low : 1 ≤ n
  pub high : n ≤ rows_of m table

-- a text stands at one place of the heap of strings, and one at another
abbrev pub AreTexts : Contents → ℕ → List ℕ → ℕ → List ℕ → Type 0
AreTexts m i space k name = IsString m.strings i space × IsString m.strings k name

-- row n of TypeRef or of TypeDef has this namespace and this name
abbrev pub HasName : Contents → Table → ℕ → List ℕ → List ℕ → Type 0
HasName m TypeRef n space name =
    AreTexts m (type_ref_of (row_of m TypeRef n)).namespace space (type_ref_of (row_of m TypeRef n)).name name
HasName m TypeDef n space name =
    AreTexts m (type_def_of (row_of m TypeDef n)).namespace space (type_def_of (row_of m TypeDef n)).name name
HasName m _ n space name = ⊥

-- the token is that of a row with the name System.MulticastDelegate
pub record IsMulticastDelegate (m : Contents) (token : Token) : Type 0 where
  pub table : Table
  pub row : ℕ
  pub there : IsRow m table row
  pub is : token_of (Some table) row ≡ Some token
  pub named : HasName m table row (codes "System") (codes "MulticastDelegate")

-- row t of TypeDef is a delegate: it extends System.MulticastDelegate
pub record IsDelegate (m : Contents) (t : ℕ) : Type 0 where
  pub base : Token
  pub extends : coded_of TypeDefOrRef (type_def_of (row_of m TypeDef t)).extends.cell ≡ Some base
  pub multicast : IsMulticastDelegate m base

-- row n of MethodDef is a method of a delegate
pub record IsOfDelegate (m : Contents) (n : ℕ) : Type 0 where
  pub owner : ℕ
  pub listed : IsInList (rows_of m MethodDef) (lists_of m).methods.cells owner n
  pub delegate : IsDelegate m owner

-- one of the flags in this mask is set
abbrev pub HasFlag : ℕ → ℕ → Type 0
HasFlag mask flags = bit_and flags mask ≢ 0

-- ImplFlags say that the code isn't IL (CodeTypeMask), that it isn't managed (Unmanaged), that it stands elsewhere
-- (ForwardRef), that only one thread may run it (Synchronized), or that the runtime has it (InternalCall)
abbrev pub AreForeign : ℕ → Type 0
AreForeign flags = HasFlag 0x0003 flags ⊎ HasFlag 0x0004 flags ⊎ HasFlag 0x0010 flags ⊎ HasFlag 0x0020 flags ⊎ HasFlag 0x1000 flags

-- row n of MethodDef is a method that isn't plain IL, and none of a delegate
pub record IsForeign (m : Contents) (n : ℕ) : Type 0 where
  pub there : IsRow m MethodDef n
  pub flags : AreForeign (method_def_of (row_of m MethodDef n)).impl_flags
  pub own : IsOfDelegate m n → ⊥
