-- Constants (ECMA-334 on constant expressions), and what operators and conversions make of them (ECMA-335 III.3.27 to
-- III.3.29, III.3.31).
use Rattle.std.specs.Prelude.{ℕ, ◌%◌, ◌^◌, ◌==◌, Bool, true, false, ◌&&◌, not, ℤ, pos, negsuc, Option, Some, None}
use Rattle.std.specs.Int.{w8, w16, w32, w64, cast_unsigned, cast_signed}
use Rattle.std.specs.Int.RustNames.{int_le}
use Rattle.dc_base.specs.declared.ty.Prim_.{Prim_}
use Rattle.dc_base.specs.declared.ty.Prim_.TheVariants.{Bool as BoolPrim, Char, I1, U1, I2, U2, I4, U4, I8, U8}
use Rattle.cil_rows.specs.declared.row.Row.{Row}
use Rattle.cil_rows.specs.declared.row.Row.TheVariants as row
use Rattle.cil_rows.specs.declared.row.Operator.TheVariants.{Div, Rem}
use Rattle.cli_heads.specs.declared.constant.Constant.{Constant}
use Rattle.cli_heads.specs.declared.constant.Constant.TheVariants.{Int, Long, Text, Null}

-- an integer, read with its sign or without
abbrev pub read_as : Bool → Constant → Option ℤ
read_as true (Int n) = Some (pos (cast_unsigned w32 n))
read_as false (Int n) = Some n
read_as true (Long n) = Some (pos (cast_unsigned w64 n))
read_as false (Long n) = Some n
read_as unsigned _ = None

-- the 64 bits of an integer that is extended with its sign or with zeros
abbrev pub low_bits : Bool → Constant → Option ℕ
low_bits true (Int n) = Some (cast_unsigned w32 n)
low_bits false (Int n) = Some (cast_unsigned w64 n)
low_bits unsigned (Long n) = Some (cast_unsigned w64 n)
low_bits unsigned _ = None

-- what a slot holds of the low bits that an integer of this type has
abbrev pub in_slot : Prim_ → ℕ → Constant
in_slot I1 bits = Int (cast_signed w8 (bits % 2 ^ 8))
in_slot BoolPrim bits = Int (pos (bits % 2 ^ 8))
in_slot U1 bits = Int (pos (bits % 2 ^ 8))
in_slot I2 bits = Int (cast_signed w16 (bits % 2 ^ 16))
in_slot Char bits = Int (pos (bits % 2 ^ 16))
in_slot U2 bits = Int (pos (bits % 2 ^ 16))
in_slot I4 bits = Int (cast_signed w32 (bits % 2 ^ 32))
in_slot U4 bits = Int (cast_signed w32 (bits % 2 ^ 32))
in_slot I8 bits = Long (cast_signed w64 bits)
in_slot U8 bits = Long (cast_signed w64 bits)

abbrev pub in_slot_of : Prim_ → Option ℕ → Option Constant
in_slot_of to None = None
in_slot_of to (Some bits) = Some (in_slot to bits)

abbrev pub converted : Prim_ → Bool → Option Constant → Option Constant
converted to unsigned None = None
converted to unsigned (Some c) = in_slot_of to (low_bits unsigned c)

-- null, cast to whatever type, is null
abbrev pub null_of : Option Constant → Option Constant
null_of (Some Null) = Some Null
null_of _ = None

-- the constant that the row makes of its first operand, where it makes one
abbrev pub constant_of : Row → Option Constant → Option Constant
constant_of (row.Truth true) operand = Some (Int (pos 1))
constant_of (row.Truth false) operand = Some (Int (pos 0))
constant_of (row.Int n) operand = Some (Int n)
constant_of (row.Long n) operand = Some (Long n)
constant_of (row.Text token) operand = Some Text
constant_of row.Null operand = Some Null
constant_of (row.Convert to unsigned checked) operand = converted to unsigned operand
constant_of (row.Cast token) operand = null_of operand
constant_of (row.UnboxAny token) operand = null_of operand
constant_of _ operand = None

-- the integer is one of this type
abbrev pub fits : Prim_ → ℤ → Bool
fits I1 n = int_le (negsuc 0x7F) n && int_le n (pos 0x7F)
fits BoolPrim n = int_le (pos 0) n && int_le n (pos 0xFF)
fits U1 n = int_le (pos 0) n && int_le n (pos 0xFF)
fits I2 n = int_le (negsuc 0x7FFF) n && int_le n (pos 0x7FFF)
fits Char n = int_le (pos 0) n && int_le n (pos 0xFFFF)
fits U2 n = int_le (pos 0) n && int_le n (pos 0xFFFF)
fits I4 n = int_le (negsuc 0x7FFF_FFFF) n && int_le n (pos 0x7FFF_FFFF)
fits U4 n = int_le (pos 0) n && int_le n (pos 0xFFFF_FFFF)
fits I8 n = int_le (negsuc 0x7FFF_FFFF_FFFF_FFFF) n && int_le n (pos 0x7FFF_FFFF_FFFF_FFFF)
fits U8 n = int_le (pos 0) n && int_le n (pos 0xFFFF_FFFF_FFFF_FFFF)

abbrev pub is_misfit : Prim_ → Option ℤ → Bool
is_misfit to None = false
is_misfit to (Some n) = not (fits to n)

abbrev pub is_misfit_of : Prim_ → Bool → Option Constant → Bool
is_misfit_of to unsigned None = false
is_misfit_of to unsigned (Some c) = is_misfit to (read_as unsigned c)

-- a checked conversion of a constant that doesn't fit
abbrev pub is_out_of_range : Row → Option Constant → Bool
is_out_of_range (row.Convert to unsigned true) operand = is_misfit_of to unsigned operand
is_out_of_range _ operand = false

abbrev pub is_zero_int : ℤ → Bool
is_zero_int (pos n) = n == 0
is_zero_int (negsuc n) = false

abbrev pub is_zero : Option Constant → Bool
is_zero (Some (Int n)) = is_zero_int n
is_zero (Some (Long n)) = is_zero_int n
is_zero _ = false

-- a quotient or a remainder by a constant zero
abbrev pub is_by_zero : Row → Option Constant → Bool
is_by_zero (row.Arithmetic Div unsigned checked) divisor = is_zero divisor
is_by_zero (row.Arithmetic Rem unsigned checked) divisor = is_zero divisor
is_by_zero _ divisor = false
