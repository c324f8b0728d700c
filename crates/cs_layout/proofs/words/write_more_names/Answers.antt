use Rattle.cs_layout.specs.Words.{dotted}
use Rattle.cs_layout.proofs.Following.{item_written}
use Rattle.cs_layout.proofs.words.write_more_names.Goals as goal

pub loop-text-preserved : goal.loop-text-preserved
loop-text-preserved c =
    item_written dotted _ _ _ c.args.names.now c.loop-text.text-index c.text-item.result c.loop-text-test.true c.text-item.is c.loop-text.invariant c.in_ok-write_dotted.ensures
