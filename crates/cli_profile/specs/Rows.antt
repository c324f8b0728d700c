-- Which rows fail the conditions of the profile that speak of rows alone: one fact a condition, which says of a table and
-- of a row of it that this row fails it (ECMA-335 II.22, each table at its own section).
use Rattle.std.specs.Prelude.{◌≡◌, ◌⊎◌, ℕ, ◌-◌, ◌≤◌, Bool, true, List, Some, slice_get}
use Rattle.cli_metadata.specs.declared.tables.Table.{Table}
use Rattle.cli_metadata.specs.declared.tables.Table.TheVariants.{Field, MethodDef, FieldMarshal, DeclSecurity, ClassLayout, FieldLayout, EventMap, Event, ModuleRef, TypeSpec, ImplMap, FieldRva, Assembly, File, ExportedType, GenericParam, MethodSpec, GenericParamConstraint}
use Rattle.cli_metadata.specs.Metadata.{Contents, rows_of, row_of, IsItem}
use Rattle.cli_tables.specs.Types.{type_spec_of}
use Rattle.cli_lists.specs.Starts.{IsInList}
use Rattle.cli_lists.specs.Lists.{lists_of}
use Rattle.cli_profile.specs.Methods.{IsRow, IsForeign}

-- what is asked: metadata, and of each row of TypeSpec, from row 1 on, whether it is reached
pub record Subject : Type 0 where
  pub metadata : Contents
  pub reached : List Bool

-- generic parameters, instances of generic methods, and constraints (II.22.20, II.22.29, II.22.21)
abbrev pub IsGeneric : Subject → Table → ℕ → Type 0
IsGeneric s GenericParam n = IsRow s.metadata GenericParam n
IsGeneric s MethodSpec n = IsRow s.metadata MethodSpec n
IsGeneric s GenericParamConstraint n = IsRow s.metadata GenericParamConstraint n
IsGeneric s _ n = ⊥

-- the events of a type, and events (II.22.12, II.22.13)
abbrev pub IsEvent : Subject → Table → ℕ → Type 0
IsEvent s EventMap n = IsRow s.metadata EventMap n
IsEvent s Event n = IsRow s.metadata Event n
IsEvent s _ n = ⊥

-- a method that isn't plain IL, and an import from a library (II.22.26, II.22.22)
abbrev pub IsNative : Subject → Table → ℕ → Type 0
IsNative s MethodDef n = IsForeign s.metadata n
IsNative s ImplMap n = IsRow s.metadata ImplMap n
IsNative s _ n = ⊥

-- other modules, the files and the types of other files, an assembly behind the first; and the first row of Assembly where
-- there is none (II.22.31, II.22.19, II.22.14, II.22.2)
abbrev pub IsModules : Subject → Table → ℕ → Type 0
IsModules s ModuleRef n = IsRow s.metadata ModuleRef n
IsModules s File n = IsRow s.metadata File n
IsModules s ExportedType n = IsRow s.metadata ExportedType n
IsModules s Assembly n = ((2 ≤ n) × IsRow s.metadata Assembly n) ⊎ ((n ≡ 1) × (rows_of s.metadata Assembly ≡ 0))
IsModules s _ n = ⊥

-- declarations of security (II.22.11)
abbrev pub IsSecurity : Subject → Table → ℕ → Type 0
IsSecurity s DeclSecurity n = IsRow s.metadata DeclSecurity n
IsSecurity s _ n = ⊥

-- how a field or a parameter is marshalled (II.22.17)
abbrev pub IsMarshal : Subject → Table → ℕ → Type 0
IsMarshal s FieldMarshal n = IsRow s.metadata FieldMarshal n
IsMarshal s _ n = ⊥

-- how a type lies in memory, and where a field lies in it (II.22.8, II.22.16)
abbrev pub IsLayout : Subject → Table → ℕ → Type 0
IsLayout s ClassLayout n = IsRow s.metadata ClassLayout n
IsLayout s FieldLayout n = IsRow s.metadata FieldLayout n
IsLayout s _ n = ⊥

-- where the data of a field stands in the file (II.22.18)
abbrev pub IsFieldData : Subject → Table → ℕ → Type 0
IsFieldData s FieldRva n = IsRow s.metadata FieldRva n
IsFieldData s _ n = ⊥

-- row n of TypeSpec is reached
abbrev pub IsReached : Subject → ℕ → Type 0
IsReached s n = slice_get s.reached (n - 1) ≡ Some true

-- the signature of row n of TypeSpec is that of an array: it begins with ELEMENT_TYPE_SZARRAY (II.23.2.14, II.23.1.16)
pub record IsArray (m : Contents) (n : ℕ) : Type 0 where
  pub blob : List ℕ
  pub stands : IsItem m.blobs (type_spec_of (row_of m TypeSpec n)).signature blob
  pub begins : slice_get blob 0 ≡ Some 0x1D

-- a type by signature that is reached and no array (II.22.39)
pub record IsOtherSpec (s : Subject) (n : ℕ) : Type 0 where
  pub there : IsRow s.metadata TypeSpec n
  pub reached : IsReached s n
  pub other : IsArray s.metadata n → ⊥

abbrev pub IsTypeSpec : Subject → Table → ℕ → Type 0
IsTypeSpec s TypeSpec n = IsOtherSpec s n
IsTypeSpec s _ n = ⊥

-- a row in the list of the first row of TypeDef, which holds what stands outside of types (II.22.37)
pub record IsOfModule (m : Contents) (table : Table) (cells : List ℕ) (n : ℕ) : Type 0 where
  pub there : IsRow m table n
  pub listed : IsInList (rows_of m table) cells 1 n

-- a field, or a method, that stands outside of types
abbrev pub IsModuleMember : Subject → Table → ℕ → Type 0
IsModuleMember s Field n = IsOfModule s.metadata Field (lists_of s.metadata).fields.cells n
IsModuleMember s MethodDef n = IsOfModule s.metadata MethodDef (lists_of s.metadata).methods.cells n
IsModuleMember s _ n = ⊥
