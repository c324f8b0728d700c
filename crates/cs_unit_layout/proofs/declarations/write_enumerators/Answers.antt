use Rattle.cs_layout.proofs.Following.{laid_item_written}
use Rattle.cs_unit_layout.specs.Units.{enumerator_laid}
use Rattle.cs_unit_layout.proofs.declarations.write_enumerators.Goals as goal

pub loop-item-preserved : goal.loop-item-preserved
loop-item-preserved c =
    laid_item_written enumerator_laid (λ e. e c.args.margin.now) _ _ _ c.args.enumerators.now c.loop-item.item-index c.item-item.result c.loop-item-test.true c.item-item.is
    c.loop-item.invariant c.in_ok-write_enumerator.ensures
