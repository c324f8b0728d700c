-- Numbers that stand in a file, the least byte first (ECMA-335 II.25.1).
use Rattle.std.specs.Prelude.{◌≡◌, ℕ, ◌+◌, ◌≤◌, List, length, drop}
use Rattle.byteorder.specs.Endian.{little_number}

-- the number in so many bytes from this place on
abbrev pub number_at : ℕ → List ℕ → ℕ → ℕ
number_at width bytes place = little_number width (drop place bytes)

-- the file has so many bytes from this place on, and they are this number
pub record IsNumber (width : ℕ) (file : List ℕ) (place n : ℕ) : Type 0 where
  pub within : place + width ≤ length file
  pub value : number_at width file place ≡ n

abbrev pub IsU16 : List ℕ → ℕ → ℕ → Type 0
IsU16 file place n = IsNumber 2 file place n

abbrev pub IsU32 : List ℕ → ℕ → ℕ → Type 0
IsU32 file place n = IsNumber 4 file place n
