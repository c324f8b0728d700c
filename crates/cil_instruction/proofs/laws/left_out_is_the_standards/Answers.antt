use Rattle.cil_instruction.proofs.Refused.{each_left_out, only_left_out}
use Rattle.cil_instruction.proofs.laws.left_out_is_the_standards.Goals as goal

pub returns : goal.returns
returns c = record { each = each_left_out; only = only_left_out }
