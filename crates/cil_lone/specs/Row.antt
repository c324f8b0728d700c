-- What an instruction does in a lone body (ECMA-335 III.3), and how many bytes it has there.
use Rattle.std.specs.Prelude.{ℕ, pos, negsuc}
use Rattle.cil_instruction.specs.declared.opcode.Op.{Op}
use Rattle.cil_instruction.specs.declared.opcode.Op.TheVariants.{Ldarg0, Ldarg1, Ldarg2, Ldarg3, LdcI4M1, LdcI40, LdcI41, LdcI42, LdcI43, LdcI44, LdcI45, LdcI46, LdcI47, LdcI48, LdcI4S, LdcI4, Add as AddOp, Sub as SubOp, Mul as MulOp, Ret}
use Rattle.cil_lone.specs.declared.row.Row.{Row}
use Rattle.cil_lone.specs.declared.row.Row.TheVariants.{Load, Binary, Return, Beyond}
use Rattle.cil_lone.specs.declared.row.Source.TheVariants.{Argument, Number, Operand as FromOperand}
use Rattle.cil_lone.specs.declared.row.Two.TheVariants.{Add, Sub, Mul}

-- the bytes of an instruction of a lone body (ECMA-335 III.3.40): only the long forms of ldc.i4 have an operand
abbrev pub size_of : Op → ℕ
size_of LdcI4S = 2
size_of LdcI4 = 5
size_of _ = 1

-- what an instruction does in a lone body (ECMA-335 III.3)
abbrev pub row_of : Op → Row
row_of Ldarg0 = Load (Argument 0)
row_of Ldarg1 = Load (Argument 1)
row_of Ldarg2 = Load (Argument 2)
row_of Ldarg3 = Load (Argument 3)
row_of LdcI4M1 = Load (Number (negsuc 0))
row_of LdcI40 = Load (Number (pos 0))
row_of LdcI41 = Load (Number (pos 1))
row_of LdcI42 = Load (Number (pos 2))
row_of LdcI43 = Load (Number (pos 3))
row_of LdcI44 = Load (Number (pos 4))
row_of LdcI45 = Load (Number (pos 5))
row_of LdcI46 = Load (Number (pos 6))
row_of LdcI47 = Load (Number (pos 7))
row_of LdcI48 = Load (Number (pos 8))
row_of LdcI4S = Load FromOperand
row_of LdcI4 = Load FromOperand
row_of AddOp = Binary Add
row_of SubOp = Binary Sub
row_of MulOp = Binary Mul
row_of Ret = Return
row_of _ = Beyond
