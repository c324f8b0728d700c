use Rattle.cs_layout.proofs.Following.{laid_item_written}
use Rattle.cs_unit_layout.specs.Units.{space_laid}
use Rattle.cs_print.proofs.units.write_each_space.Goals as goal

pub loop-space-preserved : goal.loop-space-preserved
loop-space-preserved c =
    laid_item_written space_laid (λ d. d c.args.margin.now) _ _ _ c.args.spaces.now c.loop-space.space-index c.space-item.result c.loop-space-test.true c.space-item.is
    c.loop-space.invariant c.in_ok-write_space.ensures
