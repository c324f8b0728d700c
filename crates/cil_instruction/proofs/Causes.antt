-- Why no instruction stands at some bytes.
use Rattle.std.proofs.Common.{ℕ, ◌+◌, Bool, true, false, cond, List, [], ◌∷◌, Option, None, Some, Result, Ok, Err, IfErr}
use Rattle.std.proofs.lemmas.Result.{IfErr-at_err}
use Rattle.cil_instruction.specs.declared.instruction.Found.{Found}
use Rattle.cil_instruction.specs.declared.fault.BodyCause.{BodyCause}
use Rattle.cil_instruction.specs.declared.fault.BodyCause.TheVariants.{Truncated, BadOpcode, OutOfProfile}
use Rattle.cil_instruction.specs.Opcode.{Line, is_left_out, entry_of}
use Rattle.cil_instruction.specs.Instruction.{instruction_at, prefixed, with_code, with_entry}
use Rattle.cil_instruction.specs.Laws.{IsCutCause, CauseIsOfCut}

either_cause : (b : Bool) (x y : BodyCause) → IsCutCause x → IsCutCause y → IsCutCause (cond b x y)
either_cause true x y p q = p
either_cause false x y p q = q

either_reading : (b : Bool) (x y : Result Found BodyCause) → IfErr x IsCutCause → IfErr y IsCutCause → IfErr (cond b x y) IsCutCause
either_reading true x y p q = p
either_reading false x y p q = q

by_entry : (len code : ℕ) (o : Option Line) (bytes : List ℕ) → IfErr (with_entry len code o bytes) IsCutCause
by_entry len code None bytes = either_cause (is_left_out code) (OutOfProfile code) (BadOpcode code) tt tt
by_entry len code (Some e) bytes = either_reading _ (Err Truncated) (Ok _) tt tt

by_prefix : (bytes : List ℕ) → IfErr (prefixed bytes) IsCutCause
by_prefix [] = tt
by_prefix (c ∷ bytes) = by_entry 2 (0xFE00 + c) (entry_of (0xFE00 + c)) bytes

by_instruction : (bytes : List ℕ) → IfErr (instruction_at bytes) IsCutCause
by_instruction [] = tt
by_instruction (b ∷ bytes) =
    either_reading _ (prefixed bytes) (with_code 1 b bytes) (by_prefix bytes) (by_entry 1 b (entry_of b) bytes)

pub cause_of_cut : CauseIsOfCut
cause_of_cut bytes cause none = IfErr-at_err IsCutCause none (by_instruction bytes)
