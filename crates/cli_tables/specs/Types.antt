-- Types: which column each name is (ECMA-335 II.22). Columns count from 0.
use Rattle.std.specs.Prelude.{ℕ, List, slice_index}
use Rattle.cli_metadata.specs.declared.coded_index.Coded.TheVariants.{ResolutionScope, TypeDefOrRef}
use Rattle.cli_tables.specs.declared.types.TypeRefRow.{TypeRefRow}
use Rattle.cli_tables.specs.declared.types.TypeDefRow.{TypeDefRow}
use Rattle.cli_tables.specs.declared.types.TypeSpecRow.{TypeSpecRow}
use Rattle.cli_tables.specs.declared.types.NestedClassRow.{NestedClassRow}
use Rattle.cli_tables.specs.declared.types.InterfaceImplRow.{InterfaceImplRow}

-- TypeRef (II.22.38): ResolutionScope, TypeName, TypeNamespace
abbrev pub type_ref_of : List ℕ → TypeRefRow
type_ref_of cells = record {
  scope = record { kind = ResolutionScope; cell = slice_index cells 0 };
  name = slice_index cells 1;
  namespace = slice_index cells 2;
}

-- TypeDef (II.22.37): Flags, TypeName, TypeNamespace, Extends, FieldList, MethodList
abbrev pub type_def_of : List ℕ → TypeDefRow
type_def_of cells = record {
  flags = slice_index cells 0;
  name = slice_index cells 1;
  namespace = slice_index cells 2;
  extends = record { kind = TypeDefOrRef; cell = slice_index cells 3 };
  fields = slice_index cells 4;
  methods = slice_index cells 5;
}

-- TypeSpec (II.22.39): Signature
abbrev pub type_spec_of : List ℕ → TypeSpecRow
type_spec_of cells = record {
  signature = slice_index cells 0;
}

-- NestedClass (II.22.32): NestedClass, EnclosingClass
abbrev pub nested_class_of : List ℕ → NestedClassRow
nested_class_of cells = record {
  nested = slice_index cells 0;
  enclosing = slice_index cells 1;
}

-- InterfaceImpl (II.22.23): Class, Interface
abbrev pub interface_impl_of : List ℕ → InterfaceImplRow
interface_impl_of cells = record {
  class = slice_index cells 0;
  interface = record { kind = TypeDefOrRef; cell = slice_index cells 1 };
}
