-- The sections of an image, and where in its file the bytes at an address are (ECMA-335 II.25.3).
use Rattle.std.specs.Prelude.{◌≡◌, ℕ, ◌+◌, ◌-◌, ◌≤◌, Bool, ◌&&◌, nat_le, List, length, take, drop, Option, find, option_map}
use Rattle.pe_image.specs.declared.sections.Section.{Section}
use Rattle.pe_image.specs.declared.sections.Span.{Span}
use Rattle.pe_image.specs.Number.{number_at}

-- what a section header of 40 bytes says
abbrev pub section_of : List ℕ → Section
section_of header =
    record { address = number_at 4 header 12; size = number_at 4 header 16; start = number_at 4 header 20 }

-- the file has a section header at this place, and the raw bytes that it speaks of
pub record IsSection (file : List ℕ) (place : ℕ) (s : Section) : Type 0 where
  pub within : place + 40 ≤ length file
  pub says : section_of (drop place file) ≡ s
  pub raw : s.start + s.size ≤ length file

-- the section's raw bytes are loaded so that they hold `len` bytes from the address `rva` on
abbrev pub holds : ℕ → ℕ → Section → Bool
holds rva len s = nat_le s.address rva && nat_le (rva + len) (s.address + s.size)

-- where the byte at an address that the section holds is in the file
abbrev pub place_of : ℕ → Section → ℕ
place_of rva s = s.start + (rva - s.address)

-- the range of the file that the first section which holds all of it has for these addresses
abbrev pub range_at : List Section → ℕ → ℕ → Option Span
range_at sections rva len =
    option_map (λ s. record { start = place_of rva s; len = len }) (find (holds rva len) sections)

-- from an address to the raw end of the first section that holds the byte at it
abbrev pub range_from : List Section → ℕ → Option Span
range_from sections rva =
    option_map (λ s. record { start = place_of rva s; len = s.address + s.size - rva }) (find (holds rva 1) sections)

-- the bytes of a file in a range of it
abbrev pub bytes_in : List ℕ → Span → List ℕ
bytes_in file range = take range.len (drop range.start file)
