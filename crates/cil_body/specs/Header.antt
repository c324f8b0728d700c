-- The header of a body (ECMA-335 II.25.4.1 to II.25.4.4). Places count from its first byte.
use Rattle.std.specs.Prelude.{◌≡◌, ◌⊎◌, ℕ, ◌/◌, ◌%◌, ◌<◌, ◌≤◌, Bool, false, not, ◌==◌, List, length, slice_index, bit_and}
use Rattle.cil_body.specs.declared.header.Header.{Header}
use Rattle.cil_body.specs.Number.{number_at}

-- a tiny header is one byte: 2 in its low two bits
abbrev pub IsTiny : List ℕ → Type 0
IsTiny bytes = (1 ≤ length bytes) × (slice_index bytes 0 % 4 ≡ 2)

-- Above them it has the size of the code. The stack has eight slots at most; there are no locals and no sections.
abbrev pub tiny_of : ℕ → Header
tiny_of first =
    record {
      start = 1;
      size = first / 4;
      max_stack = 8;
      init_locals = false;
      locals = record { 0 = 0 };
      has_sections = false;
    }

-- A fat header begins with 16 bits of flags: 3 in the low two, and in the upper four its own size, three words of four
-- bytes.
abbrev pub flags_of : List ℕ → ℕ
flags_of bytes = number_at 2 bytes 0

abbrev pub IsFat : List ℕ → Type 0
IsFat bytes = (2 ≤ length bytes) × (slice_index bytes 0 % 4 ≡ 3) × (flags_of bytes / 0x1000 ≡ 3)

-- the flags have this one
abbrev pub has_flag : ℕ → ℕ → Bool
has_flag flags flag = not (bit_and flags flag == 0)

-- Behind the flags stand the slots of the stack, the size of the code and the token of the locals.
abbrev pub fat_of : List ℕ → Header
fat_of bytes =
    record {
      start = 12;
      size = number_at 4 bytes 4;
      max_stack = number_at 2 bytes 2;
      init_locals = has_flag (flags_of bytes) 0x10;
      locals = record { 0 = number_at 4 bytes 8 };
      has_sections = has_flag (flags_of bytes) 0x8;
    }

-- the bytes begin with this header
abbrev pub IsHeader : List ℕ → Header → Type 0
IsHeader bytes h =
    (IsTiny bytes × (h ≡ tiny_of (slice_index bytes 0)))
    ⊎ (IsFat bytes × (12 ≤ length bytes) × (h ≡ fat_of bytes))

-- the first of the fields behind the flags that the bytes don't hold whole stands at this place
abbrev pub IsCutField : List ℕ → ℕ → Type 0
IsCutField bytes place =
    ((length bytes < 4) × (place ≡ 2))
    ⊎ ((4 ≤ length bytes) × (length bytes < 8) × (place ≡ 4))
    ⊎ ((8 ≤ length bytes) × (length bytes < 12) × (place ≡ 8))

-- the bytes begin with neither form, or with a fat header that they don't hold whole
abbrev pub IsBadHeader : List ℕ → ℕ → Type 0
IsBadHeader bytes place =
    ((IsTiny bytes → ⊥) × (IsFat bytes → ⊥) × (place ≡ 0))
    ⊎ (IsFat bytes × IsCutField bytes place)
