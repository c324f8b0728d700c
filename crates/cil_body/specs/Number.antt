-- Numbers in the bytes of a body, the least byte first (ECMA-335 II.25.4).
use Rattle.std.specs.Prelude.{ℕ, List, drop}
use Rattle.byteorder.specs.Endian.{little_number}

-- the number in so many bytes from this place on
abbrev pub number_at : ℕ → List ℕ → ℕ → ℕ
number_at width bytes place = little_number width (drop place bytes)
