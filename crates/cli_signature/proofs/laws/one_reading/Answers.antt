use Rattle.cli_signature.proofs.Blobs.{one_derivation, no_fault}
use Rattle.cli_signature.proofs.OneFault.{one_fault}
use Rattle.cli_signature.proofs.laws.one_reading.Goals as goal

pub returns-clause-one_derivation : goal.returns-clause-one_derivation
returns-clause-one_derivation c = one_derivation

pub returns-clause-no_fault : goal.returns-clause-no_fault
returns-clause-no_fault c = no_fault

pub returns-clause-one_fault : goal.returns-clause-one_fault
returns-clause-one_fault c = one_fault
