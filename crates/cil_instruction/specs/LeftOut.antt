-- The standard's instructions that aren't taken, with their opcodes (ECMA-335 III.2 to III.4, VI.C.2): those on native
-- integers, on floating point numbers and on pointers to them, on blocks of memory and on typed references, the prefixes,
-- and single ones as `jmp` and `calli`. A `stobj` and an `initobj` are such too.
use Rattle.std.specs.Prelude.{◌≡◌, ℕ, Contains}
use Rattle.cil_instruction.specs.declared.opcode.TheConstants.{LEFT_OUT}

pub data LeftOut : Type 0 where
  Break : LeftOut
  LdcR4 : LeftOut
  LdcR8 : LeftOut
  Jmp : LeftOut
  Calli : LeftOut
  LdindI : LeftOut
  LdindR4 : LeftOut
  LdindR8 : LeftOut
  StindR4 : LeftOut
  StindR8 : LeftOut
  ConvR4 : LeftOut
  ConvR8 : LeftOut
  Cpobj : LeftOut
  ConvRUn : LeftOut
  Stobj : LeftOut
  ConvOvfIUn : LeftOut
  ConvOvfUUn : LeftOut
  LdelemI : LeftOut
  LdelemR4 : LeftOut
  LdelemR8 : LeftOut
  StelemI : LeftOut
  StelemR4 : LeftOut
  StelemR8 : LeftOut
  Refanyval : LeftOut
  Ckfinite : LeftOut
  Mkrefany : LeftOut
  Ldtoken : LeftOut
  ConvI : LeftOut
  ConvOvfI : LeftOut
  ConvOvfU : LeftOut
  StindI : LeftOut
  ConvU : LeftOut
  Arglist : LeftOut
  Localloc : LeftOut
  Endfilter : LeftOut
  Unaligned : LeftOut
  Volatile : LeftOut
  Tail : LeftOut
  Initobj : LeftOut
  Constrained : LeftOut
  Cpblk : LeftOut
  Initblk : LeftOut
  No : LeftOut
  Sizeof : LeftOut
  Refanytype : LeftOut
  Readonly : LeftOut

-- An opcode of two bytes is the number whose high byte is the first of them.
abbrev pub left_out_opcode : LeftOut → ℕ
left_out_opcode Break = 0x01
left_out_opcode LdcR4 = 0x22
left_out_opcode LdcR8 = 0x23
left_out_opcode Jmp = 0x27
left_out_opcode Calli = 0x29
left_out_opcode LdindI = 0x4D
left_out_opcode LdindR4 = 0x4E
left_out_opcode LdindR8 = 0x4F
left_out_opcode StindR4 = 0x56
left_out_opcode StindR8 = 0x57
left_out_opcode ConvR4 = 0x6B
left_out_opcode ConvR8 = 0x6C
left_out_opcode Cpobj = 0x70
left_out_opcode ConvRUn = 0x76
left_out_opcode Stobj = 0x81
left_out_opcode ConvOvfIUn = 0x8A
left_out_opcode ConvOvfUUn = 0x8B
left_out_opcode LdelemI = 0x97
left_out_opcode LdelemR4 = 0x98
left_out_opcode LdelemR8 = 0x99
left_out_opcode StelemI = 0x9B
left_out_opcode StelemR4 = 0xA0
left_out_opcode StelemR8 = 0xA1
left_out_opcode Refanyval = 0xC2
left_out_opcode Ckfinite = 0xC3
left_out_opcode Mkrefany = 0xC6
left_out_opcode Ldtoken = 0xD0
left_out_opcode ConvI = 0xD3
left_out_opcode ConvOvfI = 0xD4
left_out_opcode ConvOvfU = 0xD5
left_out_opcode StindI = 0xDF
left_out_opcode ConvU = 0xE0
left_out_opcode Arglist = 0xFE00
left_out_opcode Localloc = 0xFE0F
left_out_opcode Endfilter = 0xFE11
left_out_opcode Unaligned = 0xFE12
left_out_opcode Volatile = 0xFE13
left_out_opcode Tail = 0xFE14
left_out_opcode Initobj = 0xFE15
left_out_opcode Constrained = 0xFE16
left_out_opcode Cpblk = 0xFE17
left_out_opcode Initblk = 0xFE18
left_out_opcode No = 0xFE19
left_out_opcode Sizeof = 0xFE1C
left_out_opcode Refanytype = 0xFE1D
left_out_opcode Readonly = 0xFE1E

-- the list has the opcode of each of them
abbrev pub HasEachLeftOut : Type 0
HasEachLeftOut = (i : LeftOut) → Contains LEFT_OUT (left_out_opcode i)

-- it has no other opcode
abbrev pub HasOnlyLeftOut : Type 0
HasOnlyLeftOut = (code : ℕ) → Contains LEFT_OUT code → (i : LeftOut) × (code ≡ left_out_opcode i)
