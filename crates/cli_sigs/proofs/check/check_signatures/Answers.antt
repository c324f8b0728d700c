use Rattle.cli_sigs.specs.Rows.{Subject}
use Rattle.cli_sigs.proofs.Order.{met, refused, one_table_more}
use Rattle.cli_sigs.proofs.check.check_signatures.Goals as goal

pub returns-in-Some-clause-refused : goal.returns-in-Some-clause-refused
returns-in-Some-clause-refused c =
    let s : Subject = record { metadata = c.args.metadata.now; reached = c.args.reached.now; constructors = c.args.constructors.now; named_constructors = c.args.named_constructors.now } in
    refused s c.loop-table.table-index _ c.in_ok-r.field-0 c.in-Some.r c.in-Some.cause c.token.result c.loop-table-test.true c.loop-table.invariant c.in_ok-r.ensures c.in-Some.is c.token.ensures

pub loop-table-preserved : goal.loop-table-preserved
loop-table-preserved c =
    let s : Subject = record { metadata = c.args.metadata.now; reached = c.args.reached.now; constructors = c.args.constructors.now; named_constructors = c.args.named_constructors.now } in
    one_table_more s c.loop-table.table-index _ c.in_ok-r.field-0 c.loop-table-test.true c.loop-table.invariant c.in_ok-r.ensures c.in_default.is

pub returns-clause-met : goal.returns-clause-met
returns-clause-met c =
    let s : Subject = record { metadata = c.args.metadata.now; reached = c.args.reached.now; constructors = c.args.constructors.now; named_constructors = c.args.named_constructors.now } in
    met s c.loop-table.table-index c.loop-table-test.false c.loop-table.invariant
