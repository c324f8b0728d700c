-- Where the jumps of an instruction lead to.
use Rattle.std.proofs.Common.{◌≡◌, ℕ, zero, suc, ◌+◌, ◌*◌, ◌<◌, ◌≤◌, ℤ, pos, true, false, List, [], ◌∷◌, ◌++◌, length, get_or, take, drop, map, Result, Ok, Err, refl, sym, ◌∙◌, ap, subst, inl, inr, arith}
use Rattle.std.specs.Prelude.{All, Contains}
use Rattle.std.specs.Result.{is_ok}
use Rattle.std.specs.Ordering.{nat_cmp}
use Rattle.std.specs.List.Sorted.{IsBinarySearchResult}
use Rattle.std.specs.Int.{cast_signed, w8, w32}
use Rattle.std.specs.Int.RustNames.{FitsSigned}
use Rattle.std.proofs.lemmas.Bool.{cases_lt}
use Rattle.std.proofs.lemmas.Int.{ints}
use Rattle.std.proofs.lemmas.List.{drop-drop, get_or_default, map_more, take_all}
use Rattle.std.proofs.lemmas.List.Elements.{All-nil, All-cons, All-more}
use Rattle.std.proofs.lemmas.List.Sorted.{searched}
use Rattle.byteorder.specs.Endian.{little_number}
use Rattle.cil_instruction.specs.declared.opcode.Operand.{Operand}
use Rattle.cil_instruction.specs.declared.opcode.Operand.TheVariants.{Target8, Target32, Switch}
use Rattle.cil_instruction.specs.declared.instruction.Found.{Found}
use Rattle.cil_instruction.specs.Instruction.{number_of, instruction_at, numbers}
use Rattle.cil_body.specs.Code.{Placed, AreInOrder, HasCases, jumps_by, aim_of, place_of, HasAim, IsAimed, IsTarget, IsInstr, AreTargets, IsAimFault, instr_of, starts_of}
use Rattle.dc_causes.specs.First.{IsFirstOff}
use Rattle.cil_instruction.specs.declared.instruction.Instr.{Instr}
use Rattle.cil_instruction.specs.declared.fault.BodyCause.TheVariants.{BadTarget}
use Rattle.dc_base.specs.declared.failure.Or.TheVariants.{Fault}
use Rattle.dc_causes.proofs.First.{first_off}
use Rattle.cil_instruction.proofs.Consequences.{stands_within, switch_has_cases, operand_is_spelled}

-- what a search among the starts finds
pub search_hit : (starts : List ℕ) (x : ℕ) (r : Result ℕ ℕ) → IsBinarySearchResult (λ y. nat_cmp y x) starts r → AreInOrder starts → is_ok r ≡ true → Contains starts x
search_hit starts x (Ok i) h order e =
    let s = searched starts x (Ok i) h order in
    (i, s.0, get_or_default starts i x 0 s.0 ∙ s.1)
search_hit starts x (Err i) h order e = absurd cc

pub search_miss : (starts : List ℕ) (x : ℕ) (r : Result ℕ ℕ) → IsBinarySearchResult (λ y. nat_cmp y x) starts r → AreInOrder starts → is_ok r ≡ false → Contains starts x → ⊥
search_miss starts x (Ok i) h order e has = absurd cc
search_miss starts x (Err i) h order e has =
    let s = searched starts x (Err i) h order in
    let k = has.0 in
    let is : get_or starts k 0 ≡ x = get_or_default starts k 0 x has.1 ∙ has.2 in
    elim (cases_lt k i) [
      | inl l ↦ (let low = s.1 k l in omega arith)
      | inr l ↦ (let high = s.2 k l has.1 in omega arith)
    ]

-- the numbers of a switch's cases
pub length-numbers : (n : ℕ) (bytes : List ℕ) → length (numbers n bytes) ≡ n
length-numbers zero bytes = refl
length-numbers (suc n) bytes = ap suc (length-numbers n (drop 4 bytes))

pub get_or-numbers : (n : ℕ) (bytes : List ℕ) (k : ℕ) (d : ℤ) → k < n → get_or (numbers n bytes) k d ≡ cast_signed w32 (little_number 4 (drop (4 * k) bytes))
get_or-numbers zero bytes k d l = absurd (omega arith)
get_or-numbers (suc n) bytes zero d l = refl
get_or-numbers (suc n) bytes (suc k) d l =
    let four : 4 + 4 * k ≡ 4 * suc k = omega arith in
    get_or-numbers n (drop 4 bytes) k d (omega arith)
    ∙ ap (λ (xs : List ℕ). cast_signed w32 (little_number 4 xs)) (drop-drop (4 * k) 4 bytes ∙ ap (λ (m : ℕ). drop m bytes) four)

-- how many jumps a switch has, and which
pub length-jumps : (operand : Operand) (arg : ℤ) (bytes : List ℕ) → operand ≡ Switch → length (jumps_by operand arg bytes) ≡ little_number 4 (drop 1 bytes)
length-jumps operand arg bytes is =
    ap (λ (o : Operand). length (jumps_by o arg bytes)) is ∙ length-numbers (little_number 4 (drop 1 bytes)) (drop 5 bytes)

pub get_or-jumps :
    (operand : Operand) (arg : ℤ) (bytes : List ℕ) (k : ℕ) (d : ℤ) → operand ≡ Switch → k < length (jumps_by operand arg bytes) → get_or (jumps_by operand arg bytes) k d ≡ cast_signed w32 (little_number 4 (drop (5 + 4 * k) bytes))
get_or-jumps operand arg bytes k d is l =
    let long = length-jumps operand arg bytes is in
    ap (λ (o : Operand). get_or (jumps_by o arg bytes) k d) is
    ∙ get_or-numbers (little_number 4 (drop 1 bytes)) (drop 5 bytes) k d (omega arith)
    ∙ ap (λ (xs : List ℕ). cast_signed w32 (little_number 4 xs)) (drop-drop (4 * k) 5 bytes)

byte_fits : (n : ℕ) → FitsSigned w32 (cast_signed w8 n)
byte_fits n = omega (arith, ints)

word_fits : (n : ℕ) → FitsSigned w32 (cast_signed w32 n)
word_fits n = omega (arith, ints)

numbers-fit : (n : ℕ) (bytes : List ℕ) → All (FitsSigned w32) (numbers n bytes)
numbers-fit zero bytes = All-nil (FitsSigned w32)
numbers-fit (suc n) bytes =
    All-cons (FitsSigned w32) (cast_signed w32 (little_number 4 bytes)) (numbers n (drop 4 bytes)) (word_fits (little_number 4 bytes)) (numbers-fit n (drop 4 bytes))

one_fits : (z y : ℤ) → z ≡ y → FitsSigned w32 y → All (FitsSigned w32) (z ∷ [])
one_fits z y is fits =
    All-cons (FitsSigned w32) z [] (subst (FitsSigned w32) (sym is) fits) (All-nil (FitsSigned w32))

jumps_by-fit : (operand : Operand) (arg : ℤ) (behind bytes : List ℕ) → arg ≡ number_of operand behind → All (FitsSigned w32) (jumps_by operand arg bytes)
jumps_by-fit Target8 arg behind bytes is = one_fits arg (number_of Target8 behind) is (byte_fits (get_or behind 0 0))
jumps_by-fit Target32 arg behind bytes is = one_fits arg (number_of Target32 behind) is (word_fits (little_number 4 behind))
jumps_by-fit Switch arg behind bytes is = numbers-fit (little_number 4 (drop 1 bytes)) (drop 5 bytes)
jumps_by-fit _ arg behind bytes is = All-nil (FitsSigned w32)

-- a jump is an int
pub instruction_at-fits : (bytes : List ℕ) (f : Found) → instruction_at bytes ≡ Ok f → All (FitsSigned w32) (jumps_by f.operand f.simple.arg bytes)
instruction_at-fits bytes f h =
    let arg = operand_is_spelled bytes f h in
    jumps_by-fit f.operand f.simple.arg arg.0 bytes arg.1

pub instruction_at-cases : (bytes : List ℕ) (f : Found) → instruction_at bytes ≡ Ok f → HasCases f.operand bytes
instruction_at-cases bytes f h is =
    let size = switch_has_cases bytes f h is in
    let within = stands_within bytes f h in
    omega arith

-- one more jump that leads to a start
pub targets-more :
    (starts : List ℕ) (e : Placed) (jumps : List ℤ) (i : ℕ) (places : List ℕ) (place : ℕ) → i < length jumps → IsTarget starts e (get_or jumps i (pos 0)) place → AreTargets starts e (take i jumps) places → AreTargets starts e (take (i + 1) jumps) (places ++ place ∷ [])
targets-more starts e jumps i places place l is so_far =
    let to : ℤ → ℕ = λ (jump : ℤ). place_of (aim_of e jump) in
    let here : place ≡ to (get_or jumps i (pos 0)) = ap place_of is.0 in (
      All-more (HasAim starts e) jumps i (pos 0) l so_far.0 (place, is.0, is.1),
      ap (λ (xs : List ℕ). xs ++ place ∷ []) so_far.1
          ∙ ap (λ (n : ℕ). map to (take i jumps) ++ n ∷ []) here
          ∙ sym (map_more to jumps i (pos 0) l),
    )

pub targets-all : (starts : List ℕ) (e : Placed) (jumps : List ℤ) (i : ℕ) (places : List ℕ) → length jumps ≤ i → AreTargets starts e (take i jumps) places → AreTargets starts e jumps places
targets-all starts e jumps i places le h =
    subst (λ (xs : List ℤ). AreTargets starts e xs places) (take_all i jumps le) h

-- one more instruction whose jumps are aimed
pub instrs-more :
    (code starts : List ℕ) (placed : List Placed) (i : ℕ) (d : Placed) (items : List (ℕ × Instr)) (instr : Instr) → i < length placed → IsInstr code starts (get_or placed i d) instr → items ≡ map (instr_of code) (take i placed) → items ++ ((get_or placed i d).0, instr) ∷ [] ≡ map (instr_of code) (take (i + 1) placed)
instrs-more code starts placed i d items instr l is so_far =
    ap (λ (xs : List (ℕ × Instr)). xs ++ ((get_or placed i d).0, instr) ∷ []) so_far
    ∙ ap (λ (x : Instr). map (instr_of code) (take i placed) ++ ((get_or placed i d).0, x) ∷ []) is.1
    ∙ sym (map_more (instr_of code) placed i d l)

-- the first instruction that isn't aimed
pub aim_fault :
    (code : List ℕ) (placed : List Placed) (starts : List ℕ) (start i : ℕ) (d : Placed) → starts ≡ starts_of placed → i < length placed → All (IsAimed code starts) (take i placed) → (IsAimed code starts (get_or placed i d) → ⊥)
    → IsAimFault code placed start (Fault (record { cause = BadTarget; at = start + (get_or placed i d).0 }))
aim_fault code placed starts start i d is l all off = (
  get_or placed i d,
  subst (λ (s : List ℕ). IsFirstOff (IsAimed code s) placed (get_or placed i d)) is (first_off (IsAimed code starts) placed i d l all off),
  refl,
  refl,
)
