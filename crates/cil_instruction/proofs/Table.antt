-- What the table has: a line for each instruction, and none for an opcode that is left out.
use Rattle.std.proofs.Common.{◌≡◌, ℕ, cond, Bool, true, false, List, [], ◌∷◌, Option, None, Some, refl, sym, ◌∙◌, subst}
use Rattle.std.specs.Prelude.{find, is_none, ◌&&◌, ◌==◌}
use Rattle.std.specs.List.{list_all}
use Rattle.std.proofs.lemmas.Bool.{eqb-true}
use Rattle.std.proofs.lemmas.List.Elements.{All-contains}
use Rattle.std.proofs.lemmas.List.Sums.{AllPass-from_list_all}
use Rattle.cil_instruction.specs.declared.opcode.Op.TheVariants.{Nop, Ldarg0, Ldarg1, Ldarg2, Ldarg3, Ldloc0, Ldloc1, Ldloc2, Ldloc3, Stloc0, Stloc1, Stloc2, Stloc3, LdargS, LdargaS, StargS, LdlocS, LdlocaS, StlocS, Ldnull, LdcI4M1, LdcI40, LdcI41, LdcI42, LdcI43, LdcI44, LdcI45, LdcI46, LdcI47, LdcI48, LdcI4S, LdcI4, LdcI8, Dup, Pop, Call, Ret, BrS, BrfalseS, BrtrueS, BeqS, BgeS, BgtS, BleS, BltS, BneUnS, BgeUnS, BgtUnS, BleUnS, BltUnS, Br, Brfalse, Brtrue, Beq, Bge, Bgt, Ble, Blt, BneUn, BgeUn, BgtUn, BleUn, BltUn, Switch, LdindI1, LdindU1, LdindI2, LdindU2, LdindI4, LdindU4, LdindI8, LdindRef, StindRef, StindI1, StindI2, StindI4, StindI8, Add, Sub, Mul, Div, DivUn, Rem, RemUn, And, Or, Xor, Shl, Shr, ShrUn, Neg, Not, ConvI1, ConvI2, ConvI4, ConvI8, ConvU4, ConvU8, Callvirt, Ldobj, Ldstr, Newobj, Castclass, Isinst, Unbox, Throw, Ldfld, Ldflda, Stfld, Ldsfld, Ldsflda, Stsfld, ConvOvfI1Un, ConvOvfI2Un, ConvOvfI4Un, ConvOvfI8Un, ConvOvfU1Un, ConvOvfU2Un, ConvOvfU4Un, ConvOvfU8Un, Box, Newarr, Ldlen, Ldelema, LdelemI1, LdelemU1, LdelemI2, LdelemU2, LdelemI4, LdelemU4, LdelemI8, LdelemRef, StelemI1, StelemI2, StelemI4, StelemI8, StelemRef, Ldelem, Stelem, UnboxAny, ConvOvfI1, ConvOvfU1, ConvOvfI2, ConvOvfU2, ConvOvfI4, ConvOvfU4, ConvOvfI8, ConvOvfU8, ConvU2, ConvU1, AddOvf, AddOvfUn, MulOvf, MulOvfUn, SubOvf, SubOvfUn, Endfinally, Leave, LeaveS, Ceq, Cgt, CgtUn, Clt, CltUn, Ldftn, Ldvirtftn, Ldarg, Ldarga, Starg, Ldloc, Ldloca, Stloc, Rethrow}
use Rattle.cil_instruction.specs.declared.opcode.TheConstants.{TABLE, LEFT_OUT}
use Rattle.cil_instruction.specs.Opcode.{Line, entry_of}
use Rattle.cil_instruction.specs.Standard.{opcode_of, line_of, HasEach, HasNoOther, HasNoLeftOut}

pub each : HasEach
each Nop = refl
each Ldarg0 = refl
each Ldarg1 = refl
each Ldarg2 = refl
each Ldarg3 = refl
each Ldloc0 = refl
each Ldloc1 = refl
each Ldloc2 = refl
each Ldloc3 = refl
each Stloc0 = refl
each Stloc1 = refl
each Stloc2 = refl
each Stloc3 = refl
each LdargS = refl
each LdargaS = refl
each StargS = refl
each LdlocS = refl
each LdlocaS = refl
each StlocS = refl
each Ldnull = refl
each LdcI4M1 = refl
each LdcI40 = refl
each LdcI41 = refl
each LdcI42 = refl
each LdcI43 = refl
each LdcI44 = refl
each LdcI45 = refl
each LdcI46 = refl
each LdcI47 = refl
each LdcI48 = refl
each LdcI4S = refl
each LdcI4 = refl
each LdcI8 = refl
each Dup = refl
each Pop = refl
each Call = refl
each Ret = refl
each BrS = refl
each BrfalseS = refl
each BrtrueS = refl
each BeqS = refl
each BgeS = refl
each BgtS = refl
each BleS = refl
each BltS = refl
each BneUnS = refl
each BgeUnS = refl
each BgtUnS = refl
each BleUnS = refl
each BltUnS = refl
each Br = refl
each Brfalse = refl
each Brtrue = refl
each Beq = refl
each Bge = refl
each Bgt = refl
each Ble = refl
each Blt = refl
each BneUn = refl
each BgeUn = refl
each BgtUn = refl
each BleUn = refl
each BltUn = refl
each Switch = refl
each LdindI1 = refl
each LdindU1 = refl
each LdindI2 = refl
each LdindU2 = refl
each LdindI4 = refl
each LdindU4 = refl
each LdindI8 = refl
each LdindRef = refl
each StindRef = refl
each StindI1 = refl
each StindI2 = refl
each StindI4 = refl
each StindI8 = refl
each Add = refl
each Sub = refl
each Mul = refl
each Div = refl
each DivUn = refl
each Rem = refl
each RemUn = refl
each And = refl
each Or = refl
each Xor = refl
each Shl = refl
each Shr = refl
each ShrUn = refl
each Neg = refl
each Not = refl
each ConvI1 = refl
each ConvI2 = refl
each ConvI4 = refl
each ConvI8 = refl
each ConvU4 = refl
each ConvU8 = refl
each Callvirt = refl
each Ldobj = refl
each Ldstr = refl
each Newobj = refl
each Castclass = refl
each Isinst = refl
each Unbox = refl
each Throw = refl
each Ldfld = refl
each Ldflda = refl
each Stfld = refl
each Ldsfld = refl
each Ldsflda = refl
each Stsfld = refl
each ConvOvfI1Un = refl
each ConvOvfI2Un = refl
each ConvOvfI4Un = refl
each ConvOvfI8Un = refl
each ConvOvfU1Un = refl
each ConvOvfU2Un = refl
each ConvOvfU4Un = refl
each ConvOvfU8Un = refl
each Box = refl
each Newarr = refl
each Ldlen = refl
each Ldelema = refl
each LdelemI1 = refl
each LdelemU1 = refl
each LdelemI2 = refl
each LdelemU2 = refl
each LdelemI4 = refl
each LdelemU4 = refl
each LdelemI8 = refl
each LdelemRef = refl
each StelemI1 = refl
each StelemI2 = refl
each StelemI4 = refl
each StelemI8 = refl
each StelemRef = refl
each Ldelem = refl
each Stelem = refl
each UnboxAny = refl
each ConvOvfI1 = refl
each ConvOvfU1 = refl
each ConvOvfI2 = refl
each ConvOvfU2 = refl
each ConvOvfI4 = refl
each ConvOvfU4 = refl
each ConvOvfI8 = refl
each ConvOvfU8 = refl
each ConvU2 = refl
each ConvU1 = refl
each AddOvf = refl
each AddOvfUn = refl
each MulOvf = refl
each MulOvfUn = refl
each SubOvf = refl
each SubOvfUn = refl
each Endfinally = refl
each Leave = refl
each LeaveS = refl
each Ceq = refl
each Cgt = refl
each CgtUn = refl
each Clt = refl
each CltUn = refl
each Ldftn = refl
each Ldvirtftn = refl
each Ldarg = refl
each Ldarga = refl
each Starg = refl
each Ldloc = refl
each Ldloca = refl
each Stloc = refl
each Rethrow = refl

none_from_test : (o : Option Line) → is_none o ≡ true → o ≡ None
none_from_test None h = refl
none_from_test (Some e) h = cc

none_is_left_out : list_all (λ c. is_none (entry_of c)) LEFT_OUT ≡ true
none_is_left_out = refl

pub no_left_out : HasNoLeftOut
no_left_out code has =
    none_from_test (entry_of code)
    (All-contains (λ c. is_none (entry_of c) ≡ true) LEFT_OUT code (AllPass-from_list_all (λ c. is_none (entry_of c)) LEFT_OUT none_is_left_out) has)

found_here : (p q : Line → Bool) (x e : Line) (xs : List Line) (b : Bool) → cond b (Some x) (find p xs) ≡ Some e → q x ≡ true → (find p xs ≡ Some e → q e ≡ true) → q e ≡ true
found_here p q x e xs true f h later = cc
found_here p q x e xs false f h later = later f

both_left : (a b : Bool) → (a && b) ≡ true → a ≡ true
both_left true b h = refl
both_left false b h = cc

both_right : (a b : Bool) → (a && b) ≡ true → b ≡ true
both_right true b h = h
both_right false b h = cc

found_passes : (p q : Line → Bool) (xs : List Line) (e : Line) → find p xs ≡ Some e → list_all q xs ≡ true → q e ≡ true
found_passes p q [] e f h = cc
found_passes p q (x ∷ xs) e f h =
    found_here p q x e xs (p x) f (both_left (q x) (list_all q xs) h)
    (λ g. found_passes p q xs e g (both_right (q x) (list_all q xs) h))

-- each line has the opcode of its instruction
each_opcode : list_all (λ e. e.0 == opcode_of e.1) TABLE ≡ true
each_opcode = refl

found_itself : (p : Line → Bool) (x e : Line) (xs : List Line) (b : Bool) → p x ≡ b → cond b (Some x) (find p xs) ≡ Some e → (find p xs ≡ Some e → p e ≡ true) → p e ≡ true
found_itself p x e xs true q f later = cc
found_itself p x e xs false q f later = later f

-- what is found is what was looked for
found_is : (p : Line → Bool) (xs : List Line) (e : Line) → find p xs ≡ Some e → p e ≡ true
found_is p [] e f = cc
found_is p (x ∷ xs) e f = found_itself p x e xs (p x) refl f (λ g. found_is p xs e g)

found_once : (code : ℕ) (e f : Line) → entry_of code ≡ Some e → entry_of code ≡ Some f → e ≡ f
found_once code e f h k = cc

pub no_other : HasNoOther
no_other code e h =
    let own : e.0 ≡ opcode_of e.1 =
    eqb-true e.0 (opcode_of e.1) (found_passes (λ x. x.0 == code) (λ x. x.0 == opcode_of x.1) TABLE e h each_opcode) in
    let here : e.0 ≡ code = eqb-true e.0 code (found_is (λ x. x.0 == code) TABLE e h) in
    let same : code ≡ opcode_of e.1 = sym here ∙ own in
    (same, found_once (opcode_of e.1) e (line_of e.1) (subst (λ (n : ℕ). entry_of n ≡ Some e) same h) (each e.1))
