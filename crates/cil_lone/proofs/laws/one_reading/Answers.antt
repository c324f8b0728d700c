use Rattle.cil_lone.proofs.Consequences.{has_one_code, has_no_fault, has_one_fault}
use Rattle.cil_lone.proofs.laws.one_reading.Goals as goal

pub returns-clause-one_code : goal.returns-clause-one_code
returns-clause-one_code c = has_one_code

pub returns-clause-no_fault : goal.returns-clause-no_fault
returns-clause-no_fault c = has_no_fault

pub returns-clause-one_fault : goal.returns-clause-one_fault
returns-clause-one_fault c = has_one_fault
