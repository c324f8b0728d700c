use Rattle.cli_metadata.proofs.Readings.{stands-of, wrong-of}
use Rattle.cli_metadata.proofs.metadata.Metadata.of.Goals as goal

pub returns-clause-read : goal.returns-clause-read
returns-clause-read c = stands-of c.args.bytes.now c.read.result c.read.ensures

pub returns-clause-fault : goal.returns-clause-fault
returns-clause-fault c = wrong-of c.args.bytes.now c.read.result c.read.ensures
