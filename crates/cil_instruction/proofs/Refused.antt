-- The list of opcodes that are left out is the standard's.
use Rattle.std.proofs.Common.{◌≡◌, ℕ, List, [], ◌∷◌, map, refl, subst, arith}
use Rattle.std.specs.Prelude.{All}
use Rattle.std.proofs.lemmas.List.Elements.{All-nil, All-cons, All-contains}
use Rattle.cil_instruction.specs.declared.opcode.TheConstants.{LEFT_OUT}
use Rattle.cil_instruction.specs.LeftOut.{LeftOut, Break, LdcR4, LdcR8, Jmp, Calli, LdindI, LdindR4, LdindR8, StindR4, StindR8, ConvR4, ConvR8, Cpobj, ConvRUn, Stobj, ConvOvfIUn, ConvOvfUUn, LdelemI, LdelemR4, LdelemR8, StelemI, StelemR4, StelemR8, Refanyval, Ckfinite, Mkrefany, Ldtoken, ConvI, ConvOvfI, ConvOvfU, StindI, ConvU, Arglist, Localloc, Endfilter, Unaligned, Volatile, Tail, Initobj, Constrained, Cpblk, Initblk, No, Sizeof, Refanytype, Readonly, left_out_opcode, HasEachLeftOut, HasOnlyLeftOut}

pub each_left_out : HasEachLeftOut
each_left_out Break = (0, omega arith, refl)
each_left_out LdcR4 = (1, omega arith, refl)
each_left_out LdcR8 = (2, omega arith, refl)
each_left_out Jmp = (3, omega arith, refl)
each_left_out Calli = (4, omega arith, refl)
each_left_out LdindI = (5, omega arith, refl)
each_left_out LdindR4 = (6, omega arith, refl)
each_left_out LdindR8 = (7, omega arith, refl)
each_left_out StindR4 = (8, omega arith, refl)
each_left_out StindR8 = (9, omega arith, refl)
each_left_out ConvR4 = (10, omega arith, refl)
each_left_out ConvR8 = (11, omega arith, refl)
each_left_out Cpobj = (12, omega arith, refl)
each_left_out ConvRUn = (13, omega arith, refl)
each_left_out Stobj = (14, omega arith, refl)
each_left_out ConvOvfIUn = (15, omega arith, refl)
each_left_out ConvOvfUUn = (16, omega arith, refl)
each_left_out LdelemI = (17, omega arith, refl)
each_left_out LdelemR4 = (18, omega arith, refl)
each_left_out LdelemR8 = (19, omega arith, refl)
each_left_out StelemI = (20, omega arith, refl)
each_left_out StelemR4 = (21, omega arith, refl)
each_left_out StelemR8 = (22, omega arith, refl)
each_left_out Refanyval = (23, omega arith, refl)
each_left_out Ckfinite = (24, omega arith, refl)
each_left_out Mkrefany = (25, omega arith, refl)
each_left_out Ldtoken = (26, omega arith, refl)
each_left_out ConvI = (27, omega arith, refl)
each_left_out ConvOvfI = (28, omega arith, refl)
each_left_out ConvOvfU = (29, omega arith, refl)
each_left_out StindI = (30, omega arith, refl)
each_left_out ConvU = (31, omega arith, refl)
each_left_out Arglist = (32, omega arith, refl)
each_left_out Localloc = (33, omega arith, refl)
each_left_out Endfilter = (34, omega arith, refl)
each_left_out Unaligned = (35, omega arith, refl)
each_left_out Volatile = (36, omega arith, refl)
each_left_out Tail = (37, omega arith, refl)
each_left_out Initobj = (38, omega arith, refl)
each_left_out Constrained = (39, omega arith, refl)
each_left_out Cpblk = (40, omega arith, refl)
each_left_out Initblk = (41, omega arith, refl)
each_left_out No = (42, omega arith, refl)
each_left_out Sizeof = (43, omega arith, refl)
each_left_out Refanytype = (44, omega arith, refl)
each_left_out Readonly = (45, omega arith, refl)

-- this opcode is that of one of them
abbrev Is : ℕ → Type 0
Is code = (i : LeftOut) × (code ≡ left_out_opcode i)

abbrev opcodes : List LeftOut
opcodes = Break ∷ LdcR4 ∷ LdcR8 ∷ Jmp ∷ Calli ∷ LdindI ∷ LdindR4 ∷ LdindR8 ∷ StindR4 ∷ StindR8 ∷ ConvR4 ∷ ConvR8 ∷ Cpobj ∷ ConvRUn ∷ Stobj ∷ ConvOvfIUn ∷ ConvOvfUUn ∷ LdelemI ∷ LdelemR4 ∷ LdelemR8 ∷ StelemI ∷ StelemR4 ∷ StelemR8 ∷ Refanyval ∷ Ckfinite ∷ Mkrefany ∷ Ldtoken ∷ ConvI ∷ ConvOvfI ∷ ConvOvfU ∷ StindI ∷ ConvU ∷ Arglist ∷ Localloc ∷ Endfilter ∷ Unaligned ∷ Volatile ∷ Tail ∷ Initobj ∷ Constrained ∷ Cpblk ∷ Initblk ∷ No ∷ Sizeof ∷ Refanytype ∷ Readonly ∷ []

all_are : (items : List LeftOut) → All Is (map left_out_opcode items)
all_are [] = All-nil Is
all_are (i ∷ items) = All-cons Is (left_out_opcode i) (map left_out_opcode items) (i, refl) (all_are items)

same : map left_out_opcode opcodes ≡ LEFT_OUT
same = refl

pub only_left_out : HasOnlyLeftOut
only_left_out code has = All-contains Is LEFT_OUT code (subst (All Is) same (all_are opcodes)) has
