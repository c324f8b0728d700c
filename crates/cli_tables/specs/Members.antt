-- Fields, methods and their parameters: which column each name is (ECMA-335 II.22). Columns count from 0.
use Rattle.std.specs.Prelude.{ℕ, List, slice_index}
use Rattle.cli_metadata.specs.declared.coded_index.Coded.TheVariants.{HasConstant, MemberRefParent, MethodDefOrRef}
use Rattle.cli_tables.specs.declared.members.FieldRow.{FieldRow}
use Rattle.cli_tables.specs.declared.members.MethodDefRow.{MethodDefRow}
use Rattle.cli_tables.specs.declared.members.ParamRow.{ParamRow}
use Rattle.cli_tables.specs.declared.members.MemberRefRow.{MemberRefRow}
use Rattle.cli_tables.specs.declared.members.ConstantRow.{ConstantRow}
use Rattle.cli_tables.specs.declared.members.StandAloneSigRow.{StandAloneSigRow}
use Rattle.cli_tables.specs.declared.members.MethodImplRow.{MethodImplRow}

-- Field (II.22.15): Flags, Name, Signature
abbrev pub field_of : List ℕ → FieldRow
field_of cells = record {
  flags = slice_index cells 0;
  name = slice_index cells 1;
  signature = slice_index cells 2;
}

-- MethodDef (II.22.26): RVA, ImplFlags, Flags, Name, Signature, ParamList
abbrev pub method_def_of : List ℕ → MethodDefRow
method_def_of cells = record {
  address = slice_index cells 0;
  impl_flags = slice_index cells 1;
  flags = slice_index cells 2;
  name = slice_index cells 3;
  signature = slice_index cells 4;
  params = slice_index cells 5;
}

-- Param (II.22.33): Flags, Sequence, Name
abbrev pub param_of : List ℕ → ParamRow
param_of cells = record {
  flags = slice_index cells 0;
  sequence = slice_index cells 1;
  name = slice_index cells 2;
}

-- MemberRef (II.22.25): Class, Name, Signature
abbrev pub member_ref_of : List ℕ → MemberRefRow
member_ref_of cells = record {
  class = record { kind = MemberRefParent; cell = slice_index cells 0 };
  name = slice_index cells 1;
  signature = slice_index cells 2;
}

-- Constant (II.22.9): Type, a padding byte, Parent, Value
abbrev pub constant_of : List ℕ → ConstantRow
constant_of cells = record {
  element = slice_index cells 0;
  parent = record { kind = HasConstant; cell = slice_index cells 2 };
  value = slice_index cells 3;
}

-- StandAloneSig (II.22.36): Signature
abbrev pub stand_alone_sig_of : List ℕ → StandAloneSigRow
stand_alone_sig_of cells = record {
  signature = slice_index cells 0;
}

-- MethodImpl (II.22.27): Class, MethodBody, MethodDeclaration
abbrev pub method_impl_of : List ℕ → MethodImplRow
method_impl_of cells = record {
  class = slice_index cells 0;
  body = record { kind = MethodDefOrRef; cell = slice_index cells 1 };
  declaration = record { kind = MethodDefOrRef; cell = slice_index cells 2 };
}
