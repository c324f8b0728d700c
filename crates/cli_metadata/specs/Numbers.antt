-- The numbers of the tables (ECMA-335 II.22.2 to II.22.39).
use Rattle.std.specs.Prelude.{ℕ}
use Rattle.cli_metadata.specs.declared.tables.Table.{Table}
use Rattle.cli_metadata.specs.declared.tables.Table.TheVariants.{Module, TypeRef, TypeDef, Field, MethodDef, Param, InterfaceImpl, MemberRef, Constant, CustomAttribute, FieldMarshal, DeclSecurity, ClassLayout, FieldLayout, StandAloneSig, EventMap, Event, PropertyMap, Property, MethodSemantics, MethodImpl, ModuleRef, TypeSpec, ImplMap, FieldRva, Assembly, AssemblyProcessor, AssemblyOs, AssemblyRef, AssemblyRefProcessor, AssemblyRefOs, File, ExportedType, ManifestResource, NestedClass, GenericParam, MethodSpec, GenericParamConstraint}

abbrev pub number_of : Table → ℕ
number_of Module = 0x00
number_of TypeRef = 0x01
number_of TypeDef = 0x02
number_of Field = 0x04
number_of MethodDef = 0x06
number_of Param = 0x08
number_of InterfaceImpl = 0x09
number_of MemberRef = 0x0A
number_of Constant = 0x0B
number_of CustomAttribute = 0x0C
number_of FieldMarshal = 0x0D
number_of DeclSecurity = 0x0E
number_of ClassLayout = 0x0F
number_of FieldLayout = 0x10
number_of StandAloneSig = 0x11
number_of EventMap = 0x12
number_of Event = 0x14
number_of PropertyMap = 0x15
number_of Property = 0x17
number_of MethodSemantics = 0x18
number_of MethodImpl = 0x19
number_of ModuleRef = 0x1A
number_of TypeSpec = 0x1B
number_of ImplMap = 0x1C
number_of FieldRva = 0x1D
number_of Assembly = 0x20
number_of AssemblyProcessor = 0x21
number_of AssemblyOs = 0x22
number_of AssemblyRef = 0x23
number_of AssemblyRefProcessor = 0x24
number_of AssemblyRefOs = 0x25
number_of File = 0x26
number_of ExportedType = 0x27
number_of ManifestResource = 0x28
number_of NestedClass = 0x29
number_of GenericParam = 0x2A
number_of MethodSpec = 0x2B
number_of GenericParamConstraint = 0x2C

-- each number of a table is below this one
abbrev pub table_numbers : ℕ
table_numbers = 45
