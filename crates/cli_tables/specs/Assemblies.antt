-- Modules and assemblies: which column each name is (ECMA-335 II.22). Columns count from 0.
use Rattle.std.specs.Prelude.{ℕ, List, slice_index}
use Rattle.cli_tables.specs.declared.assemblies.ModuleRow.{ModuleRow}
use Rattle.cli_tables.specs.declared.assemblies.AssemblyRow.{AssemblyRow}
use Rattle.cli_tables.specs.declared.assemblies.AssemblyRefRow.{AssemblyRefRow}

-- Module (II.22.30): Generation, Name, Mvid, EncId, EncBaseId
abbrev pub module_of : List ℕ → ModuleRow
module_of cells = record {
  generation = slice_index cells 0;
  name = slice_index cells 1;
  mvid = slice_index cells 2;
  enc_id = slice_index cells 3;
  enc_base_id = slice_index cells 4;
}

-- Assembly (II.22.2): HashAlgId, MajorVersion, MinorVersion, BuildNumber, RevisionNumber, Flags, PublicKey, Name, Culture
abbrev pub assembly_of : List ℕ → AssemblyRow
assembly_of cells = record {
  hash_algorithm = slice_index cells 0;
  major_version = slice_index cells 1;
  minor_version = slice_index cells 2;
  build_number = slice_index cells 3;
  revision_number = slice_index cells 4;
  flags = slice_index cells 5;
  public_key = slice_index cells 6;
  name = slice_index cells 7;
  culture = slice_index cells 8;
}

-- AssemblyRef (II.22.5): MajorVersion, MinorVersion, BuildNumber, RevisionNumber, Flags, PublicKeyOrToken, Name, Culture, HashValue
abbrev pub assembly_ref_of : List ℕ → AssemblyRefRow
assembly_ref_of cells = record {
  major_version = slice_index cells 0;
  minor_version = slice_index cells 1;
  build_number = slice_index cells 2;
  revision_number = slice_index cells 3;
  flags = slice_index cells 4;
  public_key_or_token = slice_index cells 5;
  name = slice_index cells 6;
  culture = slice_index cells 7;
  hash_value = slice_index cells 8;
}
