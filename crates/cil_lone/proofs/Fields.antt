-- What is known of each instruction of a cut: its place, its bytes, its operand and its row.
use Rattle.std.proofs.Common.{◌≡◌, ℕ, zero, suc, ◌+◌, ◌<◌, ◌≤◌, true, cond, ltb, List, [], ◌∷◌, length, get_or, drop, Option, None, Some, Result, Ok, Err, ℤ, arith, rules, refl, sym, ◌∙◌, ap, subst}
use Rattle.std.proofs.lemmas.Int.{ints}
use Rattle.std.specs.Int.{cast_signed, w8, w32}
use Rattle.std.specs.Int.RustNames.{FitsSigned}
use Rattle.byteorder.specs.Endian.{little_number}
use Rattle.cil_instruction.specs.declared.opcode.Operand.{Operand}
use Rattle.cil_instruction.specs.declared.opcode.Operand.TheVariants.{Absent, Var8, Var16, Int8, Int32, Int64, Token, Target8, Target32, Switch}
use Rattle.cil_lone.specs.declared.row.Row.{Row}
use Rattle.cil_lone.specs.declared.row.Row.TheVariants.{Load, Binary, Return, Beyond}
use Rattle.cil_instruction.specs.declared.instruction.Simple.{Simple}
use Rattle.cil_lone.specs.declared.standalone.Stop.{Stop}
use Rattle.cil_lone.specs.declared.standalone.Stop.TheVariants.{Truncated}
use Rattle.cil_instruction.specs.Opcode.{Line, operand_len, entry_of}
use Rattle.cil_lone.specs.Row.{row_of, size_of}
use Rattle.cil_instruction.specs.Instruction.{number_of}
use Rattle.cil_lone.specs.Cut.{Placed, Cuts, IsConsecutive, with_operand, with_row, with_line, lone_at}
use Rattle.cil_lone.proofs.Operands.{operand_fits, row_fits, entry_fits}
use Rattle.cil_lone.proofs.Cut.{size_of-positive, consecutive_le}

-- each place is before the end
pub consecutive_within : (at : ℕ) (code : List Placed) (end : ℕ) → IsConsecutive at code end → (k : ℕ) (d : Placed) → k < length code → (get_or code k d).0 < end
consecutive_within at [] end h k d l = absurd (omega arith)
consecutive_within at (e ∷ code) end h zero d l =
    let s = size_of-positive e.1.op in
    let r = consecutive_le (at + size_of e.1.op) code end h.1 in
    omega arith
consecutive_within at (e ∷ code) end h (suc k) d l =
    consecutive_within (at + size_of e.1.op) code end h.1 k d (omega arith)

byte_fits : (n : ℕ) → FitsSigned w32 (cast_signed w8 n)
byte_fits n = omega (arith, ints)

word_fits : (n : ℕ) → FitsSigned w32 (cast_signed w32 n)
word_fits n = omega (arith, ints)

-- an operand of a lone body is an int, and its bytes follow the opcode's one
number_of-fits : (operand : Operand) (size : ℕ) (bytes : List ℕ) → operand_fits operand size ≡ true → FitsSigned w32 (number_of operand bytes)
number_of-fits Absent size bytes h = search rules
number_of-fits Var8 size bytes h = cc
number_of-fits Var16 size bytes h = cc
number_of-fits Int8 size bytes h = byte_fits (get_or bytes 0 0)
number_of-fits Int32 size bytes h = word_fits (little_number 4 bytes)
number_of-fits Int64 size bytes h = cc
number_of-fits Token size bytes h = cc
number_of-fits Target8 size bytes h = cc
number_of-fits Target32 size bytes h = cc
number_of-fits Switch size bytes h = cc

pub operand_len-fits : (operand : Operand) (size : ℕ) → operand_fits operand size ≡ true → size ≡ 1 + operand_len operand
operand_len-fits Absent size h = grind arith
operand_len-fits Var8 size h = cc
operand_len-fits Var16 size h = cc
operand_len-fits Int8 size h = grind arith
operand_len-fits Int32 size h = grind arith
operand_len-fits Int64 size h = cc
operand_len-fits Token size h = cc
operand_len-fits Target8 size h = cc
operand_len-fits Target32 size h = cc
operand_len-fits Switch size h = cc

-- a lone body has instructions of this row
abbrev pub IsTaken : Row → Type 0
IsTaken Beyond = ⊥
IsTaken _ = Unit {0}

-- what is known of the instruction that stands at some bytes
pub record Stood (bytes : List ℕ) (i : Simple) : Type 0 where
  pub within : size_of i.op ≤ length bytes
  pub fits : FitsSigned w32 i.arg
  pub taken : IsTaken (row_of i.op)

pub when_ok : (a b : ℕ) (x i : Simple) → cond {A = Result Simple Stop} (ltb a b) (Err Truncated) (Ok x) ≡ Ok i → (b ≤ a) × (x ≡ i)
when_ok a b x i h = grind arith

Stood-operand : (b : ℕ) (e : Line) (bytes : List ℕ) (i : Simple) → operand_fits e.2 (size_of e.1) ≡ true → IsTaken (row_of e.1) → with_operand e bytes ≡ Ok i → Stood (b ∷ bytes) i
Stood-operand b e bytes i f t h =
    let x : Simple = record { op = e.1; arg = number_of e.2 bytes } in
    let w : (operand_len e.2 ≤ length bytes) × (x ≡ i) = when_ok (length bytes) (operand_len e.2) x i h in
    let size = operand_len-fits e.2 (size_of e.1) f in
    let le : size_of e.1 ≤ suc (length bytes) = omega (arith, size, w.0) in
    let here : Stood (b ∷ bytes) x = record { within = le; fits = number_of-fits e.2 (size_of e.1) bytes f; taken = t } in
    subst (λ (j : Simple). Stood (b ∷ bytes) j) w.1 here

pub row_taken : (r : Row) (code : ℕ) (e : Line) (bytes : List ℕ) (i : Simple) → row_fits r e ≡ true → with_row code r e bytes ≡ Ok i → (operand_fits e.2 (size_of e.1) ≡ true) × IsTaken r × (with_operand e bytes ≡ Ok i)
row_taken (Load s) code e bytes i f h = (f, tt, h)
row_taken (Binary t) code e bytes i f h = (f, tt, h)
row_taken Return code e bytes i f h = (f, tt, h)
row_taken Beyond code e bytes i f h = cc

Stood-line : (code b : ℕ) (line : Option Line) (bytes : List ℕ) (i : Simple) → entry_of code ≡ line → with_line code line bytes ≡ Ok i → Stood (b ∷ bytes) i
Stood-line code b None bytes i is h = cc
Stood-line code b (Some e) bytes i is h =
    let w = row_taken (row_of e.1) code e bytes i (entry_fits code e is) h in
    Stood-operand b e bytes i w.0 w.1 w.2

pub lone_at-stood : (bytes : List ℕ) (i : Simple) → lone_at bytes ≡ Ok i → Stood bytes i
lone_at-stood [] i h = cc
lone_at-stood (b ∷ bytes) i h = Stood-line b b (entry_of b) bytes i refl h

-- how the instruction is read that some bytes begin with
lone_at-line : (bytes : List ℕ) (e : Line) → 0 < length bytes → entry_of (get_or bytes 0 0) ≡ Some e → lone_at bytes ≡ with_row (get_or bytes 0 0) (row_of e.1) e (drop 1 bytes)
lone_at-line [] e l h = absurd (omega arith)
lone_at-line (b ∷ bytes) e l h = ap (λ (line : Option Line). with_line b line bytes) h

pub with_row-operand : (r : Row) (code : ℕ) (e : Line) (bytes : List ℕ) → (r ≡ Beyond → ⊥) → with_row code r e bytes ≡ with_operand e bytes
with_row-operand (Load s) code e bytes h = refl
with_row-operand (Binary t) code e bytes h = refl
with_row-operand Return code e bytes h = refl
with_row-operand Beyond code e bytes h = absurd (h refl)

when_short : (a b : ℕ) (x : Simple) → a < b → cond {A = Result Simple Stop} (ltb a b) (Err Truncated) (Ok x) ≡ Err Truncated
when_short a b x h = grind arith

pub when_long : (a b : ℕ) (x : Simple) → b ≤ a → cond {A = Result Simple Stop} (ltb a b) (Err Truncated) (Ok x) ≡ Ok x
when_long a b x h = grind arith

module _ (bytes : List ℕ) (code : ℕ) (e : Line) (r : Row) (len : ℕ) (some : 0 < length bytes) (is_code : code ≡ get_or bytes 0 0) (is_line : Some e ≡ entry_of code) (is_row : r ≡ row_of e.1) (taken : r ≡ Beyond → ⊥) (is_len : len ≡ operand_len e.2) where
  lone_at-operand : lone_at bytes ≡ with_operand e (drop 1 bytes)
  lone_at-operand =
      lone_at-line bytes e some (ap entry_of (sym is_code) ∙ sym is_line)
      ∙ with_row-operand (row_of e.1) (get_or bytes 0 0) e (drop 1 bytes) (λ is. taken (is_row ∙ is))

  pub lone_at-short : length (drop 1 bytes) < len → Err Truncated ≡ lone_at bytes
  lone_at-short h =
      sym (lone_at-operand ∙ when_short (length (drop 1 bytes)) (operand_len e.2) (record { op = e.1; arg = number_of e.2 (drop 1 bytes) }) (omega arith))

  pub lone_at-read : (arg : ℤ) → len ≤ length (drop 1 bytes) → arg ≡ number_of e.2 (drop 1 bytes) → Ok (record { op = e.1; arg = arg }) ≡ lone_at bytes
  lone_at-read arg h is =
      ap (λ (x : ℤ). Ok (record { op = e.1; arg = x })) is
      ∙ sym (lone_at-operand ∙ when_long (length (drop 1 bytes)) (operand_len e.2) (record { op = e.1; arg = number_of e.2 (drop 1 bytes) }) (omega arith))

pub Cuts-operand : (at : ℕ) (bytes : List ℕ) (code : List Placed) (end : ℕ) (rest : List ℕ) → Cuts at bytes code end rest → (k : ℕ) (d : Placed) → k < length code → FitsSigned w32 (get_or code k d).1.arg
Cuts-operand at bytes [] end rest h k d l = absurd (omega arith)
Cuts-operand at bytes (e ∷ code) end rest h zero d l = (lone_at-stood bytes e.1 h.1).fits
Cuts-operand at bytes (e ∷ code) end rest h (suc k) d l =
    Cuts-operand (at + size_of e.1.op) (drop (size_of e.1.op) bytes) code end rest h.2 k d (omega arith)
