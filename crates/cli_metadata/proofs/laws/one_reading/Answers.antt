use Rattle.cli_metadata.proofs.Readings.{one-content, no-fault, one-fault}
use Rattle.cli_metadata.proofs.laws.one_reading.Goals as goal

pub returns-clause-one_content : goal.returns-clause-one_content
returns-clause-one_content c = one-content

pub returns-clause-no_fault : goal.returns-clause-no_fault
returns-clause-no_fault c = no-fault

pub returns-clause-one_fault : goal.returns-clause-one_fault
returns-clause-one_fault c = one-fault
