use Rattle.dc_causes.proofs.Order.{passed, passes, first_fault, fault_there}
use Rattle.dc_causes.proofs.laws.first_fault_in_order.Goals as goal

pub returns-clause-passed : goal.returns-clause-passed
returns-clause-passed g c = λ xs. (passed _ xs, passes _ xs)

pub returns-clause-fault : goal.returns-clause-fault
returns-clause-fault g c = λ xs f. (first_fault _ xs f, fault_there _ xs f)
