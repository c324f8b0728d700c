-- A lone body is cut as all bodies are.
use Rattle.std.proofs.Common.{◌≡◌, ◌⊎◌, ℕ, ◌+◌, ◌<◌, ◌≤◌, Bool, true, false, cond, List, [], ◌∷◌, length, Option, None, Some, Result, Ok, Err, refl, sym, ◌∙◌, ap, subst, inl, inr, arith}
use Rattle.std.proofs.lemmas.Bool.{false_from_ne_true}
use Rattle.std.proofs.lemmas.Bool.Decides.{nat_tests}
use Rattle.std.specs.Prelude.{nat_lt, ◌==◌}
use Rattle.cil_instruction.specs.declared.opcode.Op.{Op}
use Rattle.cil_instruction.specs.declared.opcode.Op.TheVariants.{Ldarg0, Ldarg1, Ldarg2, Ldarg3, LdcI4M1, LdcI40, LdcI41, LdcI42, LdcI43, LdcI44, LdcI45, LdcI46, LdcI47, LdcI48, LdcI4S, LdcI4, Add, Sub, Mul, Ret}
use Rattle.cil_instruction.specs.declared.opcode.Operand.{Operand}
use Rattle.cil_instruction.specs.declared.opcode.Operand.TheVariants.{Switch}
use Rattle.cil_instruction.specs.declared.instruction.Simple.{Simple}
use Rattle.cil_instruction.specs.declared.instruction.Found.{Found}
use Rattle.cil_instruction.specs.declared.fault.BodyCause.{BodyCause}
use Rattle.cil_instruction.specs.declared.fault.BodyCause.TheVariants.{Truncated}
use Rattle.cil_instruction.specs.Opcode.{Line, operand_len, entry_of}
use Rattle.cil_instruction.specs.Standard.{opcode_of}
use Rattle.cil_instruction.specs.Instruction.{number_of, operand_size, with_line, with_entry, with_code, prefixed, instruction_at}
use Rattle.cil_instruction.proofs.Consequences.{has_no_other}
use Rattle.cil_lone.specs.declared.row.Row.TheVariants.{Beyond}
use Rattle.cil_lone.specs.Row.{row_of, size_of}
use Rattle.cil_lone.specs.Cut.{with_line as lone_line, lone_at}
use Rattle.cil_lone.specs.Laws.{IsOfAllBodies, IsOfLoneBodies}
use Rattle.cil_lone.proofs.Operands.{operand_fits, entry_fits}
use Rattle.cil_lone.proofs.Fields.{when_ok, when_long, operand_len-fits, row_taken, with_row-operand}

-- the instruction that a line of the table makes of the bytes behind an opcode of `len` bytes
abbrev made : ℕ → Line → List ℕ → Found
made len e bytes =
    record {
      simple = record { op = e.1; arg = number_of e.2 bytes };
      operand = e.2;
      size = len + operand_size e.2 bytes;
    }

-- the operand of a lone body's instruction is no switch's
operand_size-fits : (operand : Operand) (size : ℕ) (bytes : List ℕ) → operand_fits operand size ≡ true → operand_size operand bytes ≡ operand_len operand
operand_size-fits Switch size bytes h = cc
operand_size-fits _ size bytes h = refl

line_whole : (len : ℕ) (e : Line) (bytes : List ℕ) → operand_size e.2 bytes ≤ length bytes → with_line len e bytes ≡ Ok (made len e bytes)
line_whole len e bytes h = grind arith

test_is : (b c : ℕ) → (b == c) ≡ true → b ≡ c
test_is b c h = grind (arith, nat_tests)

none_some : (line : Option Line) (e : Line) → line ≡ None → line ≡ Some e → ⊥
none_some None e h k = cc
none_some (Some f) e h k = cc

no_prefix : entry_of 0xFE ≡ None
no_prefix = refl

-- a byte with a line of the table isn't the prefix
not_prefix : (b : ℕ) (e : Line) → entry_of b ≡ Some e → (b == 0xFE) ≡ false
not_prefix b e h =
    false_from_ne_true (b == 0xFE)
    (λ t. none_some (entry_of 0xFE) e no_prefix (subst (λ (n : ℕ). entry_of n ≡ Some e) (test_is b 0xFE t) h))

unprefixed : (b : ℕ) (e : Line) (bytes : List ℕ) → entry_of b ≡ Some e → instruction_at (b ∷ bytes) ≡ with_line 1 e bytes
unprefixed b e bytes h =
    ap (λ (t : Bool). cond t (prefixed bytes) (with_code 1 b bytes)) (not_prefix b e h)
    ∙ ap (λ (line : Option Line). with_entry 1 b line bytes) h

of_line :
    (b : ℕ) (line : Option Line) (bytes : List ℕ) (i : Simple) → entry_of b ≡ line → lone_line b line bytes ≡ Ok i → (f : Found) × (instruction_at (b ∷ bytes) ≡ Ok f) × (f.simple ≡ i) × (f.size ≡ size_of i.op)
of_line b None bytes i is h = cc
of_line b (Some e) bytes i is h =
    let w = row_taken (row_of e.1) b e bytes i (entry_fits b e is) h in
    let x : Simple = record { op = e.1; arg = number_of e.2 bytes } in
    let k = when_ok (length bytes) (operand_len e.2) x i w.2 in
    let len = operand_len-fits e.2 (size_of e.1) w.0 in
    let same = operand_size-fits e.2 (size_of e.1) bytes w.0 in
    let size : 1 + operand_size e.2 bytes ≡ size_of e.1 = omega arith in (
      made 1 e bytes,
      unprefixed b e bytes is ∙ line_whole 1 e bytes (omega (arith, same, k.0)),
      k.1,
      size ∙ ap (λ (j : Simple). size_of j.op) k.1,
    )

pub stands_in_all : IsOfAllBodies
stands_in_all [] i h = cc
stands_in_all (b ∷ bytes) i h = of_line b (entry_of b) bytes i refl h

-- the opcode of a lone body's instruction has one byte
short_opcode : (op : Op) → (row_of op ≡ Beyond → ⊥) → opcode_of op < 0xFE00
short_opcode Ldarg0 h = omega arith
short_opcode Ldarg1 h = omega arith
short_opcode Ldarg2 h = omega arith
short_opcode Ldarg3 h = omega arith
short_opcode LdcI4M1 h = omega arith
short_opcode LdcI40 h = omega arith
short_opcode LdcI41 h = omega arith
short_opcode LdcI42 h = omega arith
short_opcode LdcI43 h = omega arith
short_opcode LdcI44 h = omega arith
short_opcode LdcI45 h = omega arith
short_opcode LdcI46 h = omega arith
short_opcode LdcI47 h = omega arith
short_opcode LdcI48 h = omega arith
short_opcode LdcI4S h = omega arith
short_opcode LdcI4 h = omega arith
short_opcode Add h = omega arith
short_opcode Sub h = omega arith
short_opcode Mul h = omega arith
short_opcode Ret h = omega arith
short_opcode _ h = absurd (h refl)

when_whole : (b : Bool) (x f : Found) → cond {A = Result Found BodyCause} b (Err Truncated) (Ok x) ≡ Ok f → (b ≡ false) × (x ≡ f)
when_whole true x f h = absurd cc
when_whole false x f h = (refl, cc)

not_lt : (a b : ℕ) → nat_lt a b ≡ false → b ≤ a
not_lt a b h = grind (arith, nat_tests)

-- an instruction that is read comes of a line, and its operand stands behind the opcode
entry_made :
    (len code : ℕ) (line : Option Line) (bytes : List ℕ) (f : Found) → with_entry len code line bytes ≡ Ok f → (e : Line) × (line ≡ Some e) × (operand_size e.2 bytes ≤ length bytes) × (made len e bytes ≡ f)
entry_made len code None bytes f h = absurd cc
entry_made len code (Some e) bytes f h =
    let w = when_whole (nat_lt (length bytes) (operand_size e.2 bytes)) (made len e bytes) f h in
    (e, refl, not_lt (length bytes) (operand_size e.2 bytes) w.0, w.1)

either :
    (b : Bool) (x y : Result Found BodyCause) (f : Found) → cond b x y ≡ Ok f → (x ≡ Ok f) ⊎ (y ≡ Ok f)
either true x y f h = inl h
either false x y f h = inr h

-- its mnemonic is that of its line
line_op : (len : ℕ) (e : Line) (bytes : List ℕ) (f : Found) → made len e bytes ≡ f → e.1 ≡ f.simple.op
line_op len e bytes f is = ap (λ (g : Found). g.simple.op) is

-- no instruction with a prefix is one of a lone body
never_prefixed : (bytes : List ℕ) (f : Found) → prefixed bytes ≡ Ok f → (row_of f.simple.op ≡ Beyond → ⊥) → ⊥
never_prefixed [] f h taken = cc
never_prefixed (c ∷ bytes) f h taken =
    let w = entry_made 2 (0xFE00 + c) (entry_of (0xFE00 + c)) bytes f h in
    let op = line_op 2 w.0 bytes f w.3 in
    let code : 0xFE00 + c ≡ opcode_of w.0.1 = (has_no_other (0xFE00 + c) w.0 w.1).0 in
    let short = short_opcode w.0.1 (λ is. taken (ap row_of (sym op) ∙ is)) in
    omega (arith, code, short)

operand_len-le : (operand : Operand) (bytes : List ℕ) → operand_len operand ≤ operand_size operand bytes
operand_len-le Switch bytes = omega arith
operand_len-le _ bytes = omega arith

unprefixed_lone : (b : ℕ) (bytes : List ℕ) (f : Found) → with_code 1 b bytes ≡ Ok f → (row_of f.simple.op ≡ Beyond → ⊥) → lone_at (b ∷ bytes) ≡ Ok f.simple
unprefixed_lone b bytes f h taken =
    let w = entry_made 1 b (entry_of b) bytes f h in
    let e = w.0 in
    let op = line_op 1 e bytes f w.3 in
    let x : Simple = record { op = e.1; arg = number_of e.2 bytes } in
    let len = operand_len-le e.2 bytes in
    ap (λ (line : Option Line). lone_line b line bytes) w.1
    ∙ with_row-operand (row_of e.1) b e bytes (λ is. taken (ap row_of (sym op) ∙ is))
    ∙ when_long (length bytes) (operand_len e.2) x (omega (arith, len, w.2))
    ∙ ap (λ (g : Found). Ok g.simple) w.3

pub stands_in_lone : IsOfLoneBodies
stands_in_lone [] f h taken = cc
stands_in_lone (b ∷ bytes) f h taken =
    elim (either (b == 0xFE) (prefixed bytes) (with_code 1 b bytes) f h) [
      | inl k ↦ absurd (never_prefixed bytes f k taken)
      | inr k ↦ unprefixed_lone b bytes f k taken
    ]
