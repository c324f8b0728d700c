-- The headers of a PE file (ECMA-335 II.25.2).
use Rattle.std.specs.Prelude.{ℕ, ◌+◌, List}
use Rattle.pe_image.specs.declared.headers.Format.{Format}
use Rattle.pe_image.specs.declared.headers.Format.TheVariants.{Pe32, Pe32Plus}
use Rattle.pe_image.specs.declared.headers.Headers.{Headers}
use Rattle.pe_image.specs.Number.{IsU16, IsU32}

-- what the optional header begins with (II.25.2.3.1)
abbrev pub magic_of : Format → ℕ
magic_of Pe32 = 0x10B
magic_of Pe32Plus = 0x20B

-- where data directory 14, that of the CLI header, stands in the optional header (II.25.2.3.3)
abbrev pub cli_directory_of : Format → ℕ
cli_directory_of Pe32 = 208
cli_directory_of Pe32Plus = 224

-- The optional header stands behind the signature's 4 bytes and the COFF header's 20.
abbrev pub optional_place : Headers → ℕ
optional_place h = h.signature + 24

-- the section headers stand behind the optional header
abbrev pub table_place : Headers → ℕ
table_place h = optional_place h + h.optional_size

-- the number that the bytes `P`, `E`, 0, 0 are
abbrev pub pe_signature : ℕ
pe_signature = 0x4550

-- the file has these headers
pub record IsPe (file : List ℕ) (h : Headers) : Type 0 where
  pub named : IsU32 file 0x3C h.signature
  pub signed : IsU32 file h.signature pe_signature
  pub count : IsU16 file (h.signature + 6) h.section_count
  pub size : IsU16 file (h.signature + 20) h.optional_size
  pub magic : IsU16 file (optional_place h) (magic_of h.format)
