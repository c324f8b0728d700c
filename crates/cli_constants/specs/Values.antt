-- The values of constants (ECMA-335 II.22.9, II.23.1.16).
use Rattle.std.specs.Prelude.{ℕ, ◌+◌, ◌*◌, ◌==◌, List, [], ◌∷◌, length, Option, Some, None, cond, ℤ, pos}
use Rattle.std.specs.Str.{bytes_eq}
use Rattle.byteorder.specs.Endian.{little_number, twos_complement}
use Rattle.class_rows.specs.declared.row.Literal.{Literal}
use Rattle.class_rows.specs.declared.row.Literal.TheVariants.{Number, Text, NullText}

-- a number of so many bytes, the least first
abbrev pub unsigned : List ℕ → ℕ → Option ℤ
unsigned bytes count = cond (length bytes == count) (Some (pos (little_number count bytes))) None

-- the same as two's complement
abbrev pub signed : List ℕ → ℕ → Option ℤ
signed bytes count = cond (length bytes == count) (Some (twos_complement count (little_number count bytes))) None

-- BOOLEAN, CHAR, I1, U1, I2, U2, I4, U4, I8 and U8
abbrev pub number_in : ℕ → List ℕ → Option ℤ
number_in element bytes =
    cond (element == 0x02) (unsigned bytes 1)
    (cond (element == 0x03) (unsigned bytes 2)
    (cond (element == 0x04) (signed bytes 1)
    (cond (element == 0x05) (unsigned bytes 1)
    (cond (element == 0x06) (signed bytes 2)
    (cond (element == 0x07) (unsigned bytes 2)
    (cond (element == 0x08) (signed bytes 4)
    (cond (element == 0x09) (unsigned bytes 4)
    (cond (element == 0x0A) (signed bytes 8)
    (cond (element == 0x0B) (unsigned bytes 8) None)))))))))

abbrev pub with_unit : ℕ → Option (List ℕ) → Option (List ℕ)
with_unit unit None = None
with_unit unit (Some units) = Some (unit ∷ units)

-- units of two bytes, the low one first
abbrev pub units_in : List ℕ → Option (List ℕ)
units_in [] = Some []
units_in (low ∷ []) = None
units_in (low ∷ (high ∷ bytes)) = with_unit (low + 256 * high) (units_in bytes)

abbrev pub text_in : Option (List ℕ) → Option Literal
text_in None = None
text_in (Some units) = Some (Text units)

-- a null reference is four bytes of zero
abbrev pub null_in : List ℕ → Option Literal
null_in bytes = cond (bytes_eq bytes (0 ∷ 0 ∷ 0 ∷ 0 ∷ [])) (Some NullText) None

abbrev pub number_literal : Option ℤ → Option Literal
number_literal None = None
number_literal (Some n) = Some (Number n)

-- STRING, CLASS, and the numbers
abbrev pub literal_of : ℕ → List ℕ → Option Literal
literal_of element bytes =
    cond (element == 0x0E) (text_in (units_in bytes)) (cond (element == 0x12) (null_in bytes) (number_literal (number_in element bytes)))
