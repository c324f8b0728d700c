use Rattle.cil_instruction.proofs.Consequences.{has_bytes, stands_within, switch_has_cases, operand_is_spelled, cause_is_of_cut}
use Rattle.cil_instruction.proofs.laws.one_instruction.Goals as goal

pub returns : goal.returns
returns c =
    record { some = has_bytes; within = stands_within; cases = switch_has_cases; operand = operand_is_spelled; cause = cause_is_of_cut }
