-- The CLI header, and the metadata that it names (ECMA-335 II.25.3.3).
use Rattle.std.specs.Prelude.{◌≡◌, ◌≢◌, ℕ, ◌+◌, ◌%◌, ◌≤◌, List, Some}
use Rattle.pe_image.specs.declared.headers.Headers.{Headers}
use Rattle.pe_image.specs.declared.sections.Section.{Section}
use Rattle.pe_image.specs.declared.sections.Span.{Span}
use Rattle.pe_image.specs.Number.{IsU32}
use Rattle.pe_image.specs.Headers.{optional_place, cli_directory_of}
use Rattle.pe_image.specs.Sections.{range_at}

-- where data directory 14 stands in the file: the address of the CLI header, and its size
abbrev pub directory_place : Headers → ℕ
directory_place h = optional_place h + cli_directory_of h.format

-- the CLI header in this range names the address and the size of metadata, whose bytes are the other range
pub record Names (file : List ℕ) (sections : List Section) (cli metadata : Span) : Type 0 where
  pub address : ℕ
  pub size : ℕ
  pub at : IsU32 file (cli.start + 8) address
  pub long : IsU32 file (cli.start + 12) size
  pub range : range_at sections address size ≡ Some metadata

-- data directory 14 is in the optional header and names the 72 bytes of a CLI header, which names this metadata
pub record HasCli (file : List ℕ) (h : Headers) (sections : List Section) (cli metadata : Span) : Type 0 where
  pub room : cli_directory_of h.format + 8 ≤ h.optional_size
  pub address : ℕ
  pub directory : IsU32 file (directory_place h) address
  pub nonzero : address ≢ 0
  pub header : range_at sections address 72 ≡ Some cli
  pub names : Names file sections cli metadata

-- where the CLI header's flags stand in the file
abbrev pub flags_place : Span → ℕ
flags_place cli = cli.start + 16

-- the lowest of the flags (II.25.3.3.1): the image has CIL alone
abbrev pub IsIlOnly : List ℕ → Span → Type 0
IsIlOnly file cli = (flags : ℕ) × IsU32 file (flags_place cli) flags × (flags % 2 ≡ 1)
