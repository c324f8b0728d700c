-- The laws of this crate, for the proofs of the crates above.
use Rattle.cil_instruction.specs.Standard.{HasEach, HasNoOther, HasNoLeftOut}
use Rattle.cil_instruction.specs.Laws.{HasBytes, StandsWithin, SwitchHasCases, OperandIsSpelled, CauseIsOfCut}
use Rattle.cil_instruction.proofs.Table.{each, no_other, no_left_out}
use Rattle.cil_instruction.proofs.InstructionFacts.{instruction_at-some, instruction_at-within, instruction_at-switch, instruction_at-arg}
use Rattle.cil_instruction.proofs.Causes.{cause_of_cut}

pub has_each : HasEach
has_each = each

pub has_no_other : HasNoOther
has_no_other = no_other

pub has_no_left_out : HasNoLeftOut
has_no_left_out = no_left_out

pub has_bytes : HasBytes
has_bytes = instruction_at-some

pub stands_within : StandsWithin
stands_within = instruction_at-within

pub switch_has_cases : SwitchHasCases
switch_has_cases = instruction_at-switch

pub operand_is_spelled : OperandIsSpelled
operand_is_spelled = instruction_at-arg

pub cause_is_of_cut : CauseIsOfCut
cause_is_of_cut = cause_of_cut
