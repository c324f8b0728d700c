use Rattle.cs_layout.specs.Layout.{label_pieces}
use Rattle.cs_layout.proofs.Following.{item_written}
use Rattle.cs_lines.proofs.parts.write_labels.Goals as goal

pub loop-label-preserved : goal.loop-label-preserved
loop-label-preserved c =
    item_written (label_pieces c.args.margin.now) _ _ _ c.args.labels.now c.loop-label.label-index c.label-item.result c.loop-label-test.true c.label-item.is
    c.loop-label.invariant c.in_ok-write_label.ensures
