-- The tables of the standard in its own order (ECMA-335 II.22.2 to II.22.39), and its coded indices (II.24.2.6).
use Rattle.std.specs.Prelude.{ℕ, ◌-◌, List, [], ◌∷◌, ◌++◌, length, map, replicate, find, Option, ◌==◌}
use Rattle.std.specs.Option.{option_map, option_map_or}
use Rattle.std.specs.List.{range_with_len}
use Rattle.cli_metadata.specs.declared.tables.Table.{Table}
use Rattle.cli_metadata.specs.declared.tables.Table.TheVariants.{Module, TypeRef, TypeDef, Field, MethodDef, Param, InterfaceImpl, MemberRef, Constant, CustomAttribute, FieldMarshal, DeclSecurity, ClassLayout, FieldLayout, StandAloneSig, EventMap, Event, PropertyMap, Property, MethodSemantics, MethodImpl, ModuleRef, TypeSpec, ImplMap, FieldRva, Assembly, AssemblyProcessor, AssemblyOs, AssemblyRef, AssemblyRefProcessor, AssemblyRefOs, File, ExportedType, ManifestResource, NestedClass, GenericParam, MethodSpec, GenericParamConstraint}
use Rattle.cli_metadata.specs.declared.tables.Column.{Column}
use Rattle.cli_metadata.specs.declared.tables.Column.TheVariants.{Absent, Number1, Number2, Number4, Strings, Guid, Blob, Row, Coded}
use Rattle.cli_metadata.specs.declared.coded_index.Coded.{Coded as Kind}
use Rattle.cli_metadata.specs.declared.coded_index.Coded.TheVariants.{TypeDefOrRef, HasConstant, HasCustomAttribute, HasFieldMarshal, HasDeclSecurity, MemberRefParent, HasSemantics, MethodDefOrRef, MemberForwarded, Implementation, CustomAttributeType, ResolutionScope, TypeOrMethodDef}
use Rattle.cli_metadata.specs.declared.coded_index.Targets.{Targets}
use Rattle.cli_metadata.specs.Numbers.{number_of, table_numbers}

-- a table and its columns
pub record Line : Type 0 where
  pub table : Table
  pub columns : List Column

abbrev line : Table → List Column → Line
line t cs = record { table = t; columns = cs }

-- the tables by name
abbrev pub standard_tables : List Line
standard_tables =
    line Assembly (Number4 ∷ Number2 ∷ Number2 ∷ Number2 ∷ Number2 ∷ Number4 ∷ Blob ∷ Strings ∷ Strings ∷ []) ∷
    line AssemblyOs (Number4 ∷ Number4 ∷ Number4 ∷ []) ∷
    line AssemblyProcessor (Number4 ∷ []) ∷
    line AssemblyRef (Number2 ∷ Number2 ∷ Number2 ∷ Number2 ∷ Number4 ∷ Blob ∷ Strings ∷ Strings ∷ Blob ∷ []) ∷
    line AssemblyRefOs (Number4 ∷ Number4 ∷ Number4 ∷ (Row AssemblyRef) ∷ []) ∷
    line AssemblyRefProcessor (Number4 ∷ (Row AssemblyRef) ∷ []) ∷
    line ClassLayout (Number2 ∷ Number4 ∷ (Row TypeDef) ∷ []) ∷
    line Constant (Number1 ∷ Number1 ∷ (Coded HasConstant) ∷ Blob ∷ []) ∷
    line CustomAttribute ((Coded HasCustomAttribute) ∷ (Coded CustomAttributeType) ∷ Blob ∷ []) ∷
    line DeclSecurity (Number2 ∷ (Coded HasDeclSecurity) ∷ Blob ∷ []) ∷
    line Event (Number2 ∷ Strings ∷ (Coded TypeDefOrRef) ∷ []) ∷
    line EventMap ((Row TypeDef) ∷ (Row Event) ∷ []) ∷
    line ExportedType (Number4 ∷ Number4 ∷ Strings ∷ Strings ∷ (Coded Implementation) ∷ []) ∷
    line Field (Number2 ∷ Strings ∷ Blob ∷ []) ∷
    line FieldLayout (Number4 ∷ (Row Field) ∷ []) ∷
    line FieldMarshal ((Coded HasFieldMarshal) ∷ Blob ∷ []) ∷
    line FieldRva (Number4 ∷ (Row Field) ∷ []) ∷
    line File (Number4 ∷ Strings ∷ Blob ∷ []) ∷
    line GenericParam (Number2 ∷ Number2 ∷ (Coded TypeOrMethodDef) ∷ Strings ∷ []) ∷
    line GenericParamConstraint ((Row GenericParam) ∷ (Coded TypeDefOrRef) ∷ []) ∷
    line ImplMap (Number2 ∷ (Coded MemberForwarded) ∷ Strings ∷ (Row ModuleRef) ∷ []) ∷
    line InterfaceImpl ((Row TypeDef) ∷ (Coded TypeDefOrRef) ∷ []) ∷
    line ManifestResource (Number4 ∷ Number4 ∷ Strings ∷ (Coded Implementation) ∷ []) ∷
    line MemberRef ((Coded MemberRefParent) ∷ Strings ∷ Blob ∷ []) ∷
    line MethodDef (Number4 ∷ Number2 ∷ Number2 ∷ Strings ∷ Blob ∷ (Row Param) ∷ []) ∷
    line MethodImpl ((Row TypeDef) ∷ (Coded MethodDefOrRef) ∷ (Coded MethodDefOrRef) ∷ []) ∷
    line MethodSemantics (Number2 ∷ (Row MethodDef) ∷ (Coded HasSemantics) ∷ []) ∷
    line MethodSpec ((Coded MethodDefOrRef) ∷ Blob ∷ []) ∷
    line Module (Number2 ∷ Strings ∷ Guid ∷ Guid ∷ Guid ∷ []) ∷
    line ModuleRef (Strings ∷ []) ∷
    line NestedClass ((Row TypeDef) ∷ (Row TypeDef) ∷ []) ∷
    line Param (Number2 ∷ Number2 ∷ Strings ∷ []) ∷
    line Property (Number2 ∷ Strings ∷ Blob ∷ []) ∷
    line PropertyMap ((Row TypeDef) ∷ (Row Property) ∷ []) ∷
    line StandAloneSig (Blob ∷ []) ∷
    line TypeDef (Number4 ∷ Strings ∷ Strings ∷ (Coded TypeDefOrRef) ∷ (Row Field) ∷ (Row MethodDef) ∷ []) ∷
    line TypeRef ((Coded ResolutionScope) ∷ Strings ∷ Strings ∷ []) ∷
    line TypeSpec (Blob ∷ []) ∷
    []

-- the columns of a table with what fills them up to nine
abbrev pub nine : List Column → List Column
nine columns = columns ++ replicate (9 - length columns) Absent

-- the columns of the table of this number, and none where no table has it
abbrev pub standard_columns : ℕ → List Column
standard_columns n = nine (option_map_or (λ t. t.columns) (find (λ t. number_of t.table == n) standard_tables) [])

-- the tables with their columns, by number (II.22)
abbrev pub tables_by_number : List (List Column)
tables_by_number = map standard_columns (range_with_len 0 table_numbers)

-- a table that a coded index may name, with its tag
pub record Tagged : Type 0 where
  pub tag : ℕ
  pub table : Table

abbrev tagged : ℕ → Table → Tagged
tagged tag table = record { tag = tag; table = table }

-- how many bits the tag of a coded index has
abbrev pub standard_bits : Kind → ℕ
standard_bits TypeDefOrRef = 2
standard_bits HasConstant = 2
standard_bits HasCustomAttribute = 5
standard_bits HasFieldMarshal = 1
standard_bits HasDeclSecurity = 2
standard_bits MemberRefParent = 3
standard_bits HasSemantics = 1
standard_bits MethodDefOrRef = 1
standard_bits MemberForwarded = 1
standard_bits Implementation = 2
standard_bits CustomAttributeType = 3
standard_bits ResolutionScope = 2
standard_bits TypeOrMethodDef = 1

-- the tables that a coded index may name, from the last tag on
abbrev pub standard_tags : Kind → List Tagged
standard_tags TypeDefOrRef = tagged 2 TypeSpec ∷ tagged 1 TypeRef ∷ tagged 0 TypeDef ∷ []
standard_tags HasConstant = tagged 2 Property ∷ tagged 1 Param ∷ tagged 0 Field ∷ []
standard_tags HasCustomAttribute = tagged 21 MethodSpec ∷ tagged 20 GenericParamConstraint ∷ tagged 19 GenericParam ∷ tagged 18 ManifestResource ∷ tagged 17 ExportedType ∷ tagged 16 File ∷ tagged 15 AssemblyRef ∷ tagged 14 Assembly ∷ tagged 13 TypeSpec ∷ tagged 12 ModuleRef ∷ tagged 11 StandAloneSig ∷ tagged 10 Event ∷ tagged 9 Property ∷ tagged 8 DeclSecurity ∷ tagged 7 Module ∷ tagged 6 MemberRef ∷ tagged 5 InterfaceImpl ∷ tagged 4 Param ∷ tagged 3 TypeDef ∷ tagged 2 TypeRef ∷ tagged 1 Field ∷ tagged 0 MethodDef ∷ []
standard_tags HasFieldMarshal = tagged 1 Param ∷ tagged 0 Field ∷ []
standard_tags HasDeclSecurity = tagged 2 Assembly ∷ tagged 1 MethodDef ∷ tagged 0 TypeDef ∷ []
standard_tags MemberRefParent = tagged 4 TypeSpec ∷ tagged 3 MethodDef ∷ tagged 2 ModuleRef ∷ tagged 1 TypeRef ∷ tagged 0 TypeDef ∷ []
standard_tags HasSemantics = tagged 1 Property ∷ tagged 0 Event ∷ []
standard_tags MethodDefOrRef = tagged 1 MemberRef ∷ tagged 0 MethodDef ∷ []
standard_tags MemberForwarded = tagged 1 MethodDef ∷ tagged 0 Field ∷ []
standard_tags Implementation = tagged 2 ExportedType ∷ tagged 1 AssemblyRef ∷ tagged 0 File ∷ []
standard_tags CustomAttributeType = tagged 3 MemberRef ∷ tagged 2 MethodDef ∷ []
standard_tags ResolutionScope = tagged 3 TypeRef ∷ tagged 2 AssemblyRef ∷ tagged 1 ModuleRef ∷ tagged 0 Module ∷ []
standard_tags TypeOrMethodDef = tagged 1 MethodDef ∷ tagged 0 TypeDef ∷ []

-- the table of a tag
abbrev pub standard_target : Kind → ℕ → Option Table
standard_target kind tag = option_map (λ t. t.table) (find (λ t. t.tag == tag) (standard_tags kind))

-- a coded index: how many bits its tag has, and the tables by their tags
abbrev pub standard_targets : Kind → Targets
standard_targets kind = record { bits = standard_bits kind; tables = map (standard_target kind) (range_with_len 0 22) }
