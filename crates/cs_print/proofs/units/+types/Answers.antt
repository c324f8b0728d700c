use Rattle.cs_layout.proofs.Following.{laid_item_written}
use Rattle.cs_unit_layout.specs.Units.{item_laid}
use Rattle.cs_print.proofs.units.+types.Goals as goal

pub write_each_item-loop-item-preserved : goal.write_each_item-loop-item-preserved
write_each_item-loop-item-preserved m c =
    laid_item_written item_laid (λ i. i c.args.margin.now) _ _ _ c.args.items.now c.loop-item.item-index c.item-item.result c.loop-item-test.true c.item-item.is
    c.loop-item.invariant c.in_ok-write_item.ensures
