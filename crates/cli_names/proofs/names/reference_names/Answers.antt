use Rattle.class_keys.proofs.Items.{read_item}
use Rattle.cli_names.proofs.Lists.{one_more_reference}
use Rattle.cli_names.proofs.names.reference_names.Goals as goal

pub loop-row-preserved : goal.loop-row-preserved
loop-row-preserved c =
    let stands = read_item c.args.references.now c.loop-row.row-index c.row-item.result c.loop-row-test.true c.row-item.is in
    one_more_reference c.args.references.now c.loop-row.names.items c.push.new.self.items c.loop-row.row-index c.row-item.result c.reference_name.result stands c.reference_name.ensures c.in_ok-push.ensures.items c.loop-row.invariant
