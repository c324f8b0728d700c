-- What is known of an instruction that some bytes begin with.
use Rattle.std.proofs.Common.{◌≡◌, ◌⊎◌, ℕ, ◌+◌, ◌-◌, ◌*◌, ◌≢◌, ◌<◌, ◌≤◌, Bool, true, false, cond, List, [], ◌∷◌, length, get_or, take, drop, Option, None, Some, Result, Ok, Err, refl, sym, ◌∙◌, ap, subst, inl, inr, arith}
use Rattle.std.proofs.lemmas.List.{length-drop, take_all}
use Rattle.std.proofs.lemmas.Bool.Decides.{nat_tests}
use Rattle.std.specs.Prelude.{find, nat_lt, ◌==◌, ◌&&◌, IfOk}
use Rattle.std.specs.List.{list_all}
use Rattle.byteorder.specs.Endian.{little_number}
use Rattle.cil_instruction.specs.declared.opcode.Operand.{Operand}
use Rattle.cil_instruction.specs.declared.opcode.Operand.TheVariants.{Switch}
use Rattle.cil_instruction.specs.declared.opcode.TheConstants.{TABLE}
use Rattle.cil_instruction.specs.declared.instruction.Found.{Found}
use Rattle.cil_instruction.specs.declared.fault.BodyCause.{BodyCause}
use Rattle.cil_instruction.specs.declared.fault.BodyCause.TheVariants.{Truncated}
use Rattle.cil_instruction.specs.Opcode.{Line, operand_len, entry_of}
use Rattle.cil_instruction.specs.Instruction.{number_of, operand_size, with_line, with_entry, with_code, prefixed, instruction_at}

-- the instruction that a line of the table makes of the bytes behind its opcode
abbrev pub made_of : ℕ → Line → List ℕ → Found
made_of len e bytes =
    record {
      simple = record { op = e.1; arg = number_of e.2 bytes };
      operand = e.2;
      size = len + operand_size e.2 bytes;
    }

pub operand_len-le : (operand : Operand) (bytes : List ℕ) → operand_len operand ≤ operand_size operand bytes
operand_len-le Switch bytes = omega arith
operand_len-le _ bytes = omega arith

pub with_line-short : (len : ℕ) (e : Line) (bytes : List ℕ) → length bytes < operand_size e.2 bytes → with_line len e bytes ≡ Err Truncated
with_line-short len e bytes h = grind arith

pub with_line-whole : (len : ℕ) (e : Line) (bytes : List ℕ) → operand_size e.2 bytes ≤ length bytes → with_line len e bytes ≡ Ok (made_of len e bytes)
with_line-whole len e bytes h = grind arith

-- an opcode with an operand that passes the bytes, and one with an operand that doesn't
pub with_entry-short :
    (len code : ℕ) (line : Option Line) (e : Line) (bytes : List ℕ) → line ≡ Some e → length bytes < operand_size e.2 bytes → Err Truncated ≡ with_entry len code line bytes
with_entry-short len code line e bytes h short = rw h (sym (with_line-short len e bytes short))

pub with_entry-whole :
    (len code : ℕ) (line : Option Line) (e : Line) (bytes : List ℕ) → line ≡ Some e → operand_size e.2 bytes ≤ length bytes → Ok (made_of len e bytes) ≡ with_entry len code line bytes
with_entry-whole len code line e bytes h whole = rw h (sym (with_line-whole len e bytes whole))

when_whole : (b : Bool) (x f : Found) → cond {A = Result Found BodyCause} b (Err Truncated) (Ok x) ≡ Ok f → (b ≡ false) × (x ≡ f)
when_whole true x f h = absurd cc
when_whole false x f h = (refl, cc)

not_lt : (a b : ℕ) → nat_lt a b ≡ false → b ≤ a
not_lt a b h = grind (arith, nat_tests)

-- an instruction that is read comes of a line, and its operand stands behind the opcode
with_entry-made :
    (len code : ℕ) (line : Option Line) (bytes : List ℕ) (f : Found) → with_entry len code line bytes ≡ Ok f → (e : Line) × (line ≡ Some e) × (operand_size e.2 bytes ≤ length bytes) × (made_of len e bytes ≡ f)
with_entry-made len code None bytes f h = absurd cc
with_entry-made len code (Some e) bytes f h =
    let w = when_whole (nat_lt (length bytes) (operand_size e.2 bytes)) (made_of len e bytes) f h in
    (e, refl, not_lt (length bytes) (operand_size e.2 bytes) w.0, w.1)

-- the instruction has an opcode of `len` bytes, which one has a line of the table, and its operand stands behind it
pub record IsRead (bytes : List ℕ) (f : Found) : Type 0 where
  pub len : ℕ
  pub code : ℕ
  pub line : Line
  pub some : 0 < len
  pub there : len ≤ length bytes
  pub short : code < 0xFE00 → len ≡ 1
  pub has : entry_of code ≡ Some line
  pub within : operand_size line.2 (drop len bytes) ≤ length (drop len bytes)
  pub is : made_of len line (drop len bytes) ≡ f

prefixed-read : (bytes : List ℕ) (f : Found) → prefixed bytes ≡ Ok f → IsRead (0xFE ∷ bytes) f
prefixed-read [] f h = absurd cc
prefixed-read (c ∷ bytes) f h =
    let w = with_entry-made 2 (0xFE00 + c) (entry_of (0xFE00 + c)) bytes f h in
    record {
      len = 2;
      code = 0xFE00 + c;
      line = w.0;
      some = omega arith;
      there = omega arith;
      short = λ l. absurd (omega arith);
      has = w.1;
      within = w.2;
      is = w.3;
    }

unprefixed-read : (b : ℕ) (bytes : List ℕ) (f : Found) → with_code 1 b bytes ≡ Ok f → IsRead (b ∷ bytes) f
unprefixed-read b bytes f h =
    let w = with_entry-made 1 b (entry_of b) bytes f h in
    record {
      len = 1;
      code = b;
      line = w.0;
      some = omega arith;
      there = omega arith;
      short = λ _. refl;
      has = w.1;
      within = w.2;
      is = w.3;
    }

test_is : (b c : ℕ) → (b == c) ≡ true → b ≡ c
test_is b c h = grind (arith, nat_tests)

either :
    (b : Bool) (x y : Result Found BodyCause) (f : Found) → cond b x y ≡ Ok f → ((b ≡ true) × (x ≡ Ok f)) ⊎ ((b ≡ false) × (y ≡ Ok f))
either true x y f h = inl (refl, h)
either false x y f h = inr (refl, h)

-- what is read
pub instruction_at-read : (bytes : List ℕ) (f : Found) → instruction_at bytes ≡ Ok f → IsRead bytes f
instruction_at-read [] f h = absurd cc
instruction_at-read (b ∷ bytes) f h =
    elim (either (b == 0xFE) (prefixed bytes) (with_code 1 b bytes) f h) [
      | inl k ↦ subst (λ (n : ℕ). IsRead (n ∷ bytes) f) (sym (test_is b 0xFE k.0)) (prefixed-read bytes f k.1)
      | inr k ↦ unprefixed-read b bytes f k.1
    ]

-- its size
pub instruction_at-some : (bytes : List ℕ) (f : Found) → instruction_at bytes ≡ Ok f → 0 < f.size
instruction_at-some bytes f h =
    let r = instruction_at-read bytes f h in
    let some = r.some in
    let size = ap (λ (g : Found). g.size) r.is in
    omega arith

pub instruction_at-within : (bytes : List ℕ) (f : Found) → instruction_at bytes ≡ Ok f → f.size ≤ length bytes
instruction_at-within bytes f h =
    let r = instruction_at-read bytes f h in
    let there = r.there in
    let within = r.within in
    let size = ap (λ (g : Found). g.size) r.is in
    let behind = length-drop r.len bytes in
    omega arith

-- the same of a result
pub if_read-some : (r : Result Found BodyCause) (bytes : List ℕ) → r ≡ instruction_at bytes → IfOk r (λ f. 0 < f.size)
if_read-some (Ok f) bytes e = instruction_at-some bytes f (sym e)
if_read-some (Err cause) bytes e = tt

pub if_read-within : (r : Result Found BodyCause) (bytes : List ℕ) → r ≡ instruction_at bytes → IfOk r (λ f. f.size ≤ length bytes)
if_read-within (Ok f) bytes e = instruction_at-within bytes f (sym e)
if_read-within (Err cause) bytes e = tt

rest_is : (b : ℕ) (bytes : List ℕ) → take (length (b ∷ bytes) - 1) bytes ≡ bytes
rest_is b bytes =
    let same : length (b ∷ bytes) - 1 ≡ length bytes = omega arith in
    rw same (take_all (length bytes) bytes (omega arith))

-- the bytes behind the first one, as a pattern gives them
pub instruction_at-prefixed : (bytes : List ℕ) → 1 ≤ length bytes → get_or bytes 0 0 ≡ 0xFE → prefixed (take (length bytes - 1) (drop 1 bytes)) ≡ instruction_at bytes
instruction_at-prefixed [] l h = absurd (omega arith)
instruction_at-prefixed (b ∷ bytes) l h =
    let test : (b == 0xFE) ≡ true = grind (arith, nat_tests) in
    ap prefixed (rest_is b bytes) ∙ sym (ap (λ (t : Bool). cond t (prefixed bytes) (with_code 1 b bytes)) test)

pub instruction_at-unprefixed :
    (bytes : List ℕ) → 1 ≤ length bytes → get_or bytes 0 0 ≢ 0xFE → with_code 1 (get_or bytes 0 0) (take (length bytes - 1) (drop 1 bytes)) ≡ instruction_at bytes
instruction_at-unprefixed [] l h = absurd (omega arith)
instruction_at-unprefixed (b ∷ bytes) l h =
    let test : (b == 0xFE) ≡ false = grind (arith, nat_tests) in
    ap (with_code 1 b) (rest_is b bytes) ∙ sym (ap (λ (t : Bool). cond t (prefixed bytes) (with_code 1 b bytes)) test)

both : (a b : Bool) → (a && b) ≡ true → (a ≡ true) × (b ≡ true)
both true b h = (refl, h)
both false b h = absurd cc

first_or : (b : Bool) (x e : Line) (rest : Option Line) → cond b (Some x) rest ≡ Some e → ((b ≡ true) × (x ≡ e)) ⊎ (rest ≡ Some e)
first_or true x e rest h = inl (refl, cc)
first_or false x e rest h = inr h

-- a line that is found passes each test that all lines pass, and the one by which it was looked for
pub find_line : (test is : Line → Bool) (lines : List Line) (e : Line) → list_all test lines ≡ true → find is lines ≡ Some e → (test e ≡ true) × (is e ≡ true)
find_line test is [] e all h = absurd cc
find_line test is (x ∷ lines) e all h =
    let a = both (test x) (list_all test lines) all in
    elim (first_or (is x) x e (find is lines) h) [
      | inl k ↦ subst (λ (y : Line). (test y ≡ true) × (is y ≡ true)) k.1 (a.0, k.0)
      | inr k ↦ find_line test is lines e a.1 k
    ]

-- the opcode of a switch has one byte
is_short_switch : Operand → ℕ → Bool
is_short_switch Switch code = nat_lt code 0xFE00
is_short_switch _ code = true

all_short : list_all (λ e. is_short_switch e.2 e.0) TABLE ≡ true
unfolding is_short_switch
all_short = refl

is_short : (operand : Operand) (code : ℕ) → is_short_switch operand code ≡ true → operand ≡ Switch → code < 0xFE00
unfolding is_short_switch
is_short operand code h is =
    let low : nat_lt code 0xFE00 ≡ true = subst (λ (o : Operand). is_short_switch o code ≡ true) is h in
    grind (arith, nat_tests)

entry_of-switch : (code : ℕ) (e : Line) → entry_of code ≡ Some e → e.2 ≡ Switch → code < 0xFE00
entry_of-switch code e h is =
    let k = find_line (λ x. is_short_switch x.2 x.0) (λ x. x.0 == code) TABLE e all_short h in
    let same = test_is e.0 code k.1 in
    let low = is_short e.2 e.0 k.0 is in
    omega arith

pub read-operand : (bytes : List ℕ) (f : Found) (r : IsRead bytes f) → f.operand ≡ r.line.2
read-operand bytes f r = ap (λ (g : Found). g.operand) (sym r.is)

-- a switch has one byte for its opcode, four for the count of its cases, and four for each
pub instruction_at-switch : (bytes : List ℕ) (f : Found) → instruction_at bytes ≡ Ok f → f.operand ≡ Switch → f.size ≡ 5 + 4 * little_number 4 (drop 1 bytes)
instruction_at-switch bytes f h is =
    let r = instruction_at-read bytes f h in
    let of_line : r.line.2 ≡ Switch = sym (read-operand bytes f r) ∙ is in
    let one : r.len ≡ 1 = r.short (entry_of-switch r.code r.line r.has of_line) in
    let size : r.len + operand_size r.line.2 (drop r.len bytes) ≡ f.size = ap (λ (g : Found). g.size) r.is in
    let there : operand_size r.line.2 (drop r.len bytes) ≡ 4 + 4 * little_number 4 (drop 1 bytes) =
    ap (λ (o : Operand). operand_size o (drop r.len bytes)) of_line ∙ ap (λ (n : ℕ). 4 + 4 * little_number 4 (drop n bytes)) one in
    omega arith

pub instruction_at-arg : (bytes : List ℕ) (f : Found) → instruction_at bytes ≡ Ok f → (behind : List ℕ) × (f.simple.arg ≡ number_of f.operand behind)
instruction_at-arg bytes f h =
    let r = instruction_at-read bytes f h in
    let arg : number_of r.line.2 (drop r.len bytes) ≡ f.simple.arg = ap (λ (g : Found). g.simple.arg) r.is in
    (drop r.len bytes, sym arg ∙ ap (λ (o : Operand). number_of o (drop r.len bytes)) (sym (read-operand bytes f r)))
