-- Properties and their accessors: which column each name is (ECMA-335 II.22). Columns count from 0.
use Rattle.std.specs.Prelude.{ℕ, List, slice_index}
use Rattle.cli_metadata.specs.declared.coded_index.Coded.TheVariants.{HasSemantics}
use Rattle.cli_tables.specs.declared.properties.PropertyMapRow.{PropertyMapRow}
use Rattle.cli_tables.specs.declared.properties.PropertyRow.{PropertyRow}
use Rattle.cli_tables.specs.declared.properties.MethodSemanticsRow.{MethodSemanticsRow}

-- PropertyMap (II.22.35): Parent, PropertyList
abbrev pub property_map_of : List ℕ → PropertyMapRow
property_map_of cells = record {
  parent = slice_index cells 0;
  properties = slice_index cells 1;
}

-- Property (II.22.34): Flags, Name, Type
abbrev pub property_of : List ℕ → PropertyRow
property_of cells = record {
  flags = slice_index cells 0;
  name = slice_index cells 1;
  signature = slice_index cells 2;
}

-- MethodSemantics (II.22.28): Semantics, Method, Association
abbrev pub method_semantics_of : List ℕ → MethodSemanticsRow
method_semantics_of cells = record {
  semantics = slice_index cells 0;
  method = slice_index cells 1;
  association = record { kind = HasSemantics; cell = slice_index cells 2 };
}
