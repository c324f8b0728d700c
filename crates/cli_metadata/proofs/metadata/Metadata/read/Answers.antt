use Rattle.cli_metadata.specs.declared.tables.TheConstants.{TABLES}
use Rattle.cli_metadata.proofs.Whole.{read-as}
use Rattle.cli_metadata.proofs.metadata.Metadata.read.Goals as goal

pub invariant_of-result : goal.invariant_of-result
invariant_of-result c = c.in_ok-tables.ensures.placed

pub returns : goal.returns
returns c =
    read-as TABLES c.args.bytes.now c.in_ok-streams.streams c.in_ok-tables.tables c.heap_of.result.now c.heap_of-2.result.now c.heap_of-3.result.now c.front-stream.result.now
    c.in_ok-streams.ensures.streams c.front-stream.ensures.front c.in_ok-tables.ensures.tables c.heap_of.ensures c.heap_of-2.ensures c.heap_of-3.ensures
