use Rattle.cil_instruction.proofs.Consequences.{has_each, has_no_other, has_no_left_out}
use Rattle.cil_instruction.proofs.laws.table_is_the_standards.Goals as goal

pub returns-clause-each : goal.returns-clause-each
returns-clause-each c = has_each

pub returns-clause-no_other : goal.returns-clause-no_other
returns-clause-no_other c = has_no_other

pub returns-clause-no_left_out : goal.returns-clause-no_left_out
returns-clause-no_left_out c = has_no_left_out
