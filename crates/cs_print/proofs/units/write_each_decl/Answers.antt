use Rattle.cs_layout.proofs.Following.{laid_item_written}
use Rattle.cs_unit_layout.specs.Units.{decl_laid}
use Rattle.cs_print.proofs.units.write_each_decl.Goals as goal

pub loop-decl-preserved : goal.loop-decl-preserved
loop-decl-preserved c =
    laid_item_written decl_laid (λ d. d c.args.margin.now) _ _ _ c.args.types.now c.loop-decl.decl-index c.decl-item.result c.loop-decl-test.true c.decl-item.is
    c.loop-decl.invariant c.in_ok-write_decl.ensures
