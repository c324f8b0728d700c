use Rattle.std.proofs.Common.{length, arith}
use Rattle.cli_metadata.specs.Metadata.{nowhere}
use Rattle.cli_metadata.proofs.Places.{placed-at}
use Rattle.cli_metadata.proofs.metadata.Metadata.row.Goals as goal

pub row_start-start-requires-clause-whole : goal.row_start-start-requires-clause-whole
row_start-start-requires-clause-whole g c = placed-at (length c.self.inside.stream.now) c.self.inside.tables c.from.result nowhere (omega arith) c.self.invariant
