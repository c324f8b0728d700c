use Rattle.pe_image.proofs.Faults.{one_image, no_fault, one_fault}
use Rattle.pe_image.proofs.laws.one_reading.Goals as goal

pub returns-clause-one_image : goal.returns-clause-one_image
returns-clause-one_image c = one_image

pub returns-clause-no_fault : goal.returns-clause-no_fault
returns-clause-no_fault c = no_fault

pub returns-clause-one_fault : goal.returns-clause-one_fault
returns-clause-one_fault c = one_fault
